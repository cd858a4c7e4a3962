use Rattle.std.proofs.Common.{ap, refl, ◌∙◌}
use Rattle.mx_multi.specs.Seats.{MultiView}
use Rattle.mx_worker.specs.Work.{IsDone}
use Rattle.mx_worker.proofs.Tallies.{done_claimed, held_own, uncounted, with_last}
use Rattle.mx_worker.proofs.tally.TallyEngineWorkerClaim.claim.Goals as goal

pub note-requires : goal.note-requires
note-requires g c = uncounted _ _ c.claims.ensures (record { unrecorded = refl; fresh = refl; kept = refl })

pub invariant_of-self : goal.invariant_of-self
invariant_of-self g c = with_last (λ l. IsDone c.self.inside.start.value c.claim.new.self l) _ _ _ _ c.note.ensures c.claims.ensures
    (done_claimed _ _ _ _ c.claim.result c.held_of-held.result c.self.invariant c.held_of-held.ensures c.claim.ensures.sees c.claim.ensures.claims c.claim.ensures.given c.claim.ensures.queue c.claim.ensures.slot)

pub returns-clause-own : goal.returns-clause-own
returns-clause-own g c = rw (← c.self.view_is) (held_own c.claim.result c.held_of-held.result _ _ c.held_of-held.ensures c.claim.ensures.own (ap (λ (m : MultiView _ _). m.engine.ties) (c.claim.ensures.of ∙ c.self.invariant.later.of)))
