use Rattle.std.proofs.Common.{rules}
use Rattle.mx_lock.proofs.engine.Engine.is_ready.Goals as goal

pub returns : goal.returns
returns g c = search rules
