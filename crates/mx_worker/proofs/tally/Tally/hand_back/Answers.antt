use Rattle.std.proofs.Common.{ap, subst, sym, ◌∙◌, ◌∷◌, ◌++◌, []}
use Rattle.mx_turn.specs.Workers.{gives_back}
use Rattle.mx_lock.specs.Ties.{TiedClaimed}
use Rattle.mx_turn.specs.Engines.{HeldView}
use Rattle.mx_worker.specs.Work.{IsDone, return_of}
use Rattle.mx_worker.proofs.Tallies.{done_return}
use Rattle.mx_worker.proofs.tally.Tally.hand_back.Goals as goal

pub invariant_of-self : goal.invariant_of-self
invariant_of-self g c = subst (λ l. IsDone c.self.inside.start.value c.give_back-answer.new.self l) (sym c.note_return.ensures)
    (done_return _ _ _ _ _ _ c.into_claim.result.ticket c.give_back-answer.result c.self.invariant (ap (λ (h : HeldView _). h.held.ticket) (c.of-given.ensures ∙ c.into_parts-right.ensures.parts) ∙ ap (λ (t : TiedClaimed). t.ticket) (sym c.into_claim.ensures)) c.give_back-answer.ensures.sees c.give_back-answer.ensures.claims c.give_back-answer.ensures.given c.give_back-answer.ensures.right)

pub returns-clause-did : goal.returns-clause-did
returns-clause-did g c = rw (← c.self.view_is)
    (return_of c.give_back-answer.result, c.note_return.ensures ∙ ap (λ (h : HeldView _). c.self.inside.log.did ++ gives_back h.held (return_of c.give_back-answer.result) ∷ []) c.of-given.ensures)
