use Rattle.std.proofs.Common.{rules}
use Rattle.mx_lock.proofs.lock.Lock.leave.Goals as goal

pub returns-clause-reader : goal.returns-clause-reader
returns-clause-reader g c = search rules
