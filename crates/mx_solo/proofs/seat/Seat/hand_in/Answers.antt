use Rattle.std.proofs.Common.{ap, ◌∙◌}
use Rattle.mx_turn.specs.Engines.{EndView}
use Rattle.mx_turn.specs.Workers.{finishes, unseated}
use Rattle.mx_solo.specs.Seats.{DoesAt, finish_by}
use Rattle.mx_solo.proofs.Steps.{away, each_more, ends_there, taken_in}
use Rattle.mx_solo.proofs.seat.Seat.hand_in.Goals as goal

pub invariant_of-self : goal.invariant_of-self
invariant_of-self g c =
    each_more DoesAt _ _ _ _ _ _ _ c.self.invariant (away (finishes c.args.finished.end.ticket c.args.finished.end.outcome unseated) _ c.in_default.is) c.note.ensures
    (c.unseated.ensures ∙ ap (λ (e : EndView). finishes e.end.ticket e.end.outcome unseated) c.of-end.ensures)

pub invariant_of-self-2 : goal.invariant_of-self-2
invariant_of-self-2 g c =
    each_more DoesAt _ _ _ _ _ _ _ c.self.invariant (ends_there c.args.finished.end.ticket c.args.finished.end.outcome c.record-is_recorded.result _ _ _ c.in-Some.is c.record-is_recorded.ensures) c.note-2.ensures
    (c.done_by_end.ensures ∙ ap (λ (e : EndView). finishes e.end.ticket e.end.outcome (finish_by c.record-is_recorded.result)) c.of-end.ensures)

pub returns-clause-did : goal.returns-clause-did
returns-clause-did g c = rw (← c.self.view_is) (taken_in _ _ c.args.finished c.of-end.result.value c.record-is_recorded.result c.done_by_end.result c.note-2.ensures c.done_by_end.ensures c.of-end.ensures)
