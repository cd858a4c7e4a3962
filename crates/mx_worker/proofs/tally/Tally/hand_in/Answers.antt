use Rattle.std.proofs.Common.{ap, subst, sym, ◌∙◌}
use Rattle.std.specs.Prelude.{option_map}
use Rattle.mx_worker.specs.Work.{IsDone, end_of}
use Rattle.mx_worker.proofs.Tallies.{back_own, done_finish, hands_in_so}
use Rattle.mx_worker.proofs.tally.Tally.hand_in.Goals as goal

pub finished_of-requires : goal.finished_of-requires
finished_of-requires g c = rw c.note_end.ensures.back (back_own _ _ _ _ c.finish-answer.ensures.back c.into_claim.ensures c.into_parts-right.ensures.origin)

pub invariant_of-self : goal.invariant_of-self
invariant_of-self g c = subst (λ l. IsDone c.self.inside.start.value c.finish-answer.new.self l) (sym c.note_end.ensures.did)
    (done_finish _ _ _ _ _ c.of-end.result.value _ _ _ c.finish-answer.result c.self.invariant (c.of-end.ensures ∙ c.into_parts-right.ensures.parts) c.into_claim.ensures c.finish-answer.ensures.stands c.finish-answer.ensures.right)

pub returns-clause-did : goal.returns-clause-did
returns-clause-did g c = rw (← c.self.view_is) (hands_in_so _ _ c.of-end.result.value c.args.finished _ _ _ c.finish-answer.result c.finished_of.result c.note_end.ensures.did c.of-end.ensures (c.finished_of.ensures ∙ ap (option_map end_of) c.note_end.ensures.back) c.finish-answer.ensures.back c.into_parts-right.ensures.parts c.into_claim.ensures)
