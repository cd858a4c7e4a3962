use Rattle.std.proofs.Common.{refl}
use Rattle.mx_worker.specs.Work.{AreCounted}
use Rattle.mx_worker.proofs.Tallies.{counts_recorded, counts_same, counts_stale, with_last}
use Rattle.mx_worker.proofs.log.Log.note_end.Goals as goal

pub invariant_of-self : goal.invariant_of-self
invariant_of-self g c = with_last (λ l. AreCounted l c.saturating_add-self-inside.result c.self.inside.stale c.self.inside.given_back) _ _ _ _ c.note.ensures c.recorded.ensures
    (counts_recorded _ _ _ _ _ _ _ c.self.invariant c.saturating_add-self-inside.ensures)

pub invariant_of-self-in-Ok-Stale : goal.invariant_of-self-in-Ok-Stale
invariant_of-self-in-Ok-Stale g c = with_last (λ l. AreCounted l c.self.inside.recorded c.saturating_add-self-inside-in-Ok-Stale.result c.self.inside.given_back) _ _ _ _ c.note-in-Ok-Stale.ensures c.stale.ensures
    (counts_stale _ _ _ _ _ _ _ c.self.invariant c.saturating_add-self-inside-in-Ok-Stale.ensures)

pub invariant_of-self-in-Ok-OutOfMemory : goal.invariant_of-self-in-Ok-OutOfMemory
invariant_of-self-in-Ok-OutOfMemory g c = with_last (λ l. AreCounted l c.self.inside.recorded c.self.inside.stale c.self.inside.given_back) _ _ _ _ c.note-in-Ok-OutOfMemory.ensures c.lacking.ensures
    (counts_same _ _ _ _ _ c.self.invariant refl refl refl)

pub invariant_of-self-in-Err : goal.invariant_of-self-in-Err
invariant_of-self-in-Err g c = with_last (λ l. AreCounted l c.self.inside.recorded c.self.inside.stale c.self.inside.given_back) _ _ _ _ c.note-in-Err.ensures c.unseated.ensures
    (counts_same _ _ _ _ _ c.self.invariant refl refl refl)
