use Rattle.std.proofs.Common.{refl}
use Rattle.mx_worker.specs.Work.{IsDone}
use Rattle.mx_worker.proofs.Tallies.{done_looked, uncounted, with_last}
use Rattle.mx_worker.proofs.tally.TallyEngineWorkerClaim.look.Goals as goal

pub note-requires : goal.note-requires
note-requires g c = uncounted _ _ c.looks.ensures (record { unrecorded = refl; fresh = refl; kept = refl })

pub invariant_of-self : goal.invariant_of-self
invariant_of-self g c = with_last (λ l. IsDone c.self.inside.start.value c.look-seen.new.self l) _ _ _ _ c.note.ensures c.looks.ensures
    (done_looked _ _ _ _ c.args.ticket c.look-seen.result c.self.invariant c.look-seen.ensures)
