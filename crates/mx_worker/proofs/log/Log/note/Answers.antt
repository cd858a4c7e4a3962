use Rattle.std.proofs.Common.{refl}
use Rattle.mx_worker.specs.Work.{AreCounted}
use Rattle.mx_worker.proofs.Tallies.{counts_same, with_last}
use Rattle.mx_worker.proofs.log.Log.note.Goals as goal

pub invariant_of-self : goal.invariant_of-self
invariant_of-self g c = with_last (λ l. AreCounted l c.self.inside.recorded c.self.inside.stale c.self.inside.given_back) _ _ _ _ c.note.ensures refl
    (counts_same _ _ _ _ _ c.self.invariant c.requires.unrecorded c.requires.fresh c.requires.kept)
