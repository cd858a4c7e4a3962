use Rattle.mx_lock.specs.Engine.{content}
use Rattle.mx_lock.proofs.Keys.{begins}
use Rattle.mx_lock.proofs.lock.EmptyLock.new.Goals as goal

pub bounded_with-requires-clause-rule : goal.bounded_with-requires-clause-rule
bounded_with-requires-clause-rule g c = begins (content {Q = g.row.Q.Denot} {O = g.row.O.Denot})
