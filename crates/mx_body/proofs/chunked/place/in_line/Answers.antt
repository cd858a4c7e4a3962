use Rattle.std.proofs.Common.{rules}
use Rattle.mx_body.proofs.chunked.place.in_line.Goals as goal

pub returns-in-10 : goal.returns-in-10
returns-in-10 c = search rules
