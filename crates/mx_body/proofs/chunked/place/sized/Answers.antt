use Rattle.std.proofs.Common.{rules}
use Rattle.mx_body.proofs.chunked.place.sized.Goals as goal

pub returns-then-size-from : goal.returns-then-size-from
returns-then-size-from c = search rules

pub returns-else-size-from : goal.returns-else-size-from
returns-else-size-from c = search rules
