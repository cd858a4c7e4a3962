use Rattle.std.proofs.Common.{refl}
use Rattle.mx_worker.specs.Work.{IsDone}
use Rattle.mx_worker.proofs.Tallies.{done_notes, uncounted, with_last}
use Rattle.mx_worker.proofs.tally.TallyEngineWorkerClaim.note.Goals as goal

pub note-requires-2 : goal.note-requires-2
note-requires-2 g c = uncounted _ _ c.notes.ensures (record { unrecorded = refl; fresh = refl; kept = refl })

pub invariant_of-self : goal.invariant_of-self
invariant_of-self g c = with_last (λ l. IsDone c.self.inside.start.value c.note.new.self l) _ _ _ _ c.note-2.ensures c.notes.ensures
    (done_notes _ _ _ _ c.args.right.now.slot c.args.right.now.ticket c.args.count c.self.invariant (rw (← c.claim.ensures) c.note.ensures))
