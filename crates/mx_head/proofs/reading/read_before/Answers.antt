use Rattle.std.proofs.Common.{ℕ, List, take, sym, subst, arith, length-take}
use Rattle.mx_types.specs.declared.code.Code.TheVariants.{WeirdServerReply, TooLarge}
use Rattle.mx_head.specs.declared.types.HeadStep.TheVariants as step
use Rattle.mx_head.specs.Reading.{IsStepOn}
use Rattle.mx_head.proofs.StepLemmas.{before_whole, before_invalid, before_partial, before_overfull, past_split}
use Rattle.mx_head.proofs.reading.read_before.Goals as goal

pub returns-in-Invalid-clause-step : goal.returns-in-Invalid-clause-step
returns-in-Invalid-clause-step c =
    let e = c.args.end in
    let text = c.args.text.now in
    subst (λ (t : List ℕ). IsStepOn t (step.Fault WeirdServerReply)) (sym (past_split text e c.requires.past.within))
    (before_invalid (take e text) _ _ (omega (arith, length-take e text, c.requires.past.within)) c.requires.past.full c.in-Invalid.ensures)

pub returns-in-Whole-clause-step : goal.returns-in-Whole-clause-step
returns-in-Whole-clause-step c =
    let e = c.args.end in
    let text = c.args.text.now in
    let found = c.in-Whole.ensures in
    subst (λ (t : List ℕ). IsStepOn t (step.Head c.in-Whole.head)) (sym (past_split text e c.requires.past.within))
    (before_whole (take e text) _ _ c.in-Whole.head found.0 found.1 (omega (arith, length-take e text, c.requires.past.within)) found.2 found.3 found.4)

pub returns-in-Partial-clause-step : goal.returns-in-Partial-clause-step
returns-in-Partial-clause-step c =
    let e = c.args.end in
    let text = c.args.text.now in
    subst (λ (t : List ℕ). IsStepOn t (step.Fault TooLarge)) (sym (past_split text e c.requires.past.within))
    (before_partial (take e text) _ _ c.requires.past.not_return c.requires.past.not_feed c.requires.past.full c.in-Partial.ensures.1)

pub returns-in-Overfull-clause-step : goal.returns-in-Overfull-clause-step
returns-in-Overfull-clause-step c = absurd (before_overfull _ c.requires.past.full c.in-Overfull.ensures)
