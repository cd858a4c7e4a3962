use Rattle.std.proofs.Common.{refl}
use Rattle.mx_worker.specs.Work.{AreCounted}
use Rattle.mx_worker.proofs.Tallies.{counts_returned, counts_same, with_last}
use Rattle.mx_worker.proofs.log.Log.note_return.Goals as goal

pub invariant_of-self : goal.invariant_of-self
invariant_of-self g c = with_last (λ l. AreCounted l c.self.inside.recorded c.self.inside.stale c.saturating_add-self-inside.result) _ _ _ _ c.note.ensures c.returned.ensures
    (counts_returned _ _ _ _ _ _ c.self.invariant c.saturating_add-self-inside.ensures)

pub invariant_of-self-in-Ok-Stale : goal.invariant_of-self-in-Ok-Stale
invariant_of-self-in-Ok-Stale g c = with_last (λ l. AreCounted l c.self.inside.recorded c.self.inside.stale c.self.inside.given_back) _ _ _ _ c.note-in-Ok-Stale.ensures c.ended_before.ensures
    (counts_same _ _ _ _ _ c.self.invariant refl refl refl)

pub invariant_of-self-in-Err : goal.invariant_of-self-in-Err
invariant_of-self-in-Err g c = with_last (λ l. AreCounted l c.self.inside.recorded c.self.inside.stale c.self.inside.given_back) _ _ _ _ c.note-in-Err.ensures c.unreturned.ensures
    (counts_same _ _ _ _ _ c.self.invariant refl refl refl)
