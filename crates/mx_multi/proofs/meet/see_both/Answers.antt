use Rattle.std.proofs.Common.{subst, sym}
use Rattle.mx_lock.specs.Engine.{EngineState}
use Rattle.mx_multi.specs.Retiring.{AllFind}
use Rattle.mx_multi.proofs.meet.see_both.Goals as goal

pub see_each-requires-2-clause-find : goal.see_each-requires-2-clause-find
see_each-requires-2-clause-find g c = subst (λ (z : EngineState g.row.Q.Denot g.row.O.Denot). AllFind z.core.journal c.args.workers.now) (sym c.see_each.ensures.same) c.requires.find.1
