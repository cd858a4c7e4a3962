use Rattle.mx_solo.specs.Seats.{DoesAt}
use Rattle.mx_solo.proofs.Steps.{each_more, notes_at}
use Rattle.mx_solo.proofs.seat.SeatEngineSoloClaim.note.Goals as goal

pub invariant_of-self : goal.invariant_of-self
invariant_of-self g c = each_more DoesAt _ _ _ _ _ _ _ c.self.invariant (notes_at c.args.right.now.ticket c.args.right.now.slot c.args.count _) c.note.ensures c.notes.ensures
