use Rattle.std.proofs.Common.{ℕ, List, sym, subst, ◌∙◌}
use Rattle.mx_body.specs.Steps.{HavePassed, IsFinalStepOn}
use Rattle.mx_body.proofs.ProgressLemmas.{passed_more}
use Rattle.mx_body.proofs.heads.Heads.read.Goals as goal

pub final_head_from-step-requires : goal.final_head_from-step-requires
final_head_from-step-requires c =
    subst (λ (t : List ℕ). HavePassed t c.self.inside.passed) (sym (c.as_slice.ensures.value ∙ c.in_ok-extend_from_slice.ensures.items))
    (passed_more c.self.inside.bytes.items c.args.piece.now c.self.inside.passed c.self.invariant)

pub returns-clause-step : goal.returns-clause-step
returns-clause-step c = subst (λ (t : List ℕ). IsFinalStepOn t c.final_head_from-step.result) c.as_slice.ensures.value c.final_head_from-step.ensures.step
