use Rattle.std.proofs.Common.{rules}
use Rattle.mx_link.proofs.streams.write_of.Goals as goal

pub returns-in-Err : goal.returns-in-Err
returns-in-Err c = search rules
