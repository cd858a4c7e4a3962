use Rattle.std.proofs.Common.{rules}
use Rattle.mx_body.proofs.chunked.place.after_digits.Goals as goal

pub returns-in_default : goal.returns-in_default
returns-in_default c = search rules
