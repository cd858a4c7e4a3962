use Rattle.std.proofs.Common.{subst}
use Rattle.mx_lock.specs.Engine.{EngineState}
use Rattle.mx_lock.specs.Ties.{AreOfAdditions}
use Rattle.mx_lock.proofs.Tying.{of_additions}
use Rattle.mx_lock.proofs.engine.Engine.know.Goals as goal

pub returns-clause-tied : goal.returns-clause-tied
returns-clause-tied g c =
    subst (λ (x : EngineState g.row.Q.Denot g.row.O.Denot). AreOfAdditions g.Q.Work.origin g.O.Ending.origin x.core x.ties.entries) c.self.view_is
    (of_additions g.O.Ending.origin g.Q.Work.origin c.self.inside.parts.value.core c.self.inside.parts.value.ties.entries c.self.invariant.2 (rw c.deref.ensures at c.sound.ensures.origins.0) (rw c.deref.ensures at c.sound.ensures.origins.1))
