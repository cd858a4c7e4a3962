use Rattle.mx_solo.specs.Seats.{DoesAt}
use Rattle.mx_solo.proofs.Steps.{each_more}
use Rattle.mx_solo.proofs.seat.SeatEngineSoloClaim.claim.Goals as goal

pub invariant_of-self : goal.invariant_of-self
invariant_of-self g c = each_more DoesAt _ _ _ _ _ _ _ c.self.invariant c.take-held.ensures.does c.note.ensures c.claims.ensures
