use Rattle.std.proofs.Common.{rules}
use Rattle.mx_body.proofs.whole.decode_short.Goals as goal

pub returns-then-input-gt-MOST_BYTES : goal.returns-then-input-gt-MOST_BYTES
returns-then-input-gt-MOST_BYTES c = search rules

pub returns-then-ended : goal.returns-then-ended
returns-then-ended c = search rules

pub returns-else-ended : goal.returns-else-ended
returns-else-ended c = search rules
