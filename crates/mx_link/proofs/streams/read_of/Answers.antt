use Rattle.std.proofs.Common.{rules}
use Rattle.mx_link.proofs.streams.read_of.Goals as goal

pub returns-in-Err-2 : goal.returns-in-Err-2
returns-in-Err-2 c = search rules
