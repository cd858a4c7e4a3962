use Rattle.std.proofs.Common.{rules}
use Rattle.mx_types.proofs.code.Code.number.Goals as goal

pub returns-in-RecvError : goal.returns-in-RecvError
returns-in-RecvError c = search rules
