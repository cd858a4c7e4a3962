use Rattle.std.proofs.Common.{ap, ◌∙◌}
use Rattle.mx_turn.specs.Engines.{HeldView}
use Rattle.mx_turn.specs.Workers.{gives_back, unreturned}
use Rattle.mx_solo.specs.Seats.{DoesAt, return_by}
use Rattle.mx_solo.proofs.Steps.{away, each_more, gives_there}
use Rattle.mx_solo.proofs.seat.Seat.hand_back.Goals as goal

pub invariant_of-self : goal.invariant_of-self
invariant_of-self g c =
    each_more DoesAt _ _ _ _ _ _ _ c.self.invariant (away (gives_back c.args.held.held unreturned) _ c.in_default.is) c.note.ensures
    (c.unreturned.ensures ∙ ap (λ (h : HeldView _). gives_back h.held unreturned) c.of-given.ensures)

pub invariant_of-self-2 : goal.invariant_of-self-2
invariant_of-self-2 g c =
    each_more DoesAt _ _ _ _ _ _ _ c.self.invariant (gives_there c.args.held.held c.put_back-is_back.result _ _ _ c.in-Some.is c.put_back-is_back.ensures) c.note-2.ensures
    (c.done_by_return.ensures ∙ ap (λ (h : HeldView _). gives_back h.held (return_by c.put_back-is_back.result)) c.of-given.ensures)
