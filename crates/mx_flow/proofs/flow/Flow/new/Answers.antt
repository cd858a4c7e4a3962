use Rattle.std.proofs.Common.{ℕ, List, length, ap, sym, subst}
use Rattle.std.specs.Prelude.{min}
use Rattle.mx_flow.specs.Flows.{HasState}
use Rattle.mx_flow.specs.Steps.{most_counted}
use Rattle.mx_flow.proofs.LawProofs.{at_first, first_not_bad}
use Rattle.mx_flow.proofs.flow.Flow.new.Goals as goal

pub invariant_of-result : goal.invariant_of-result
invariant_of-result c = (
  subst (λ (t : List ℕ). HasState c.args.limit c.args.framing t c.first_state.result) (sym c.new.ensures) c.first_state.ensures,
  λ more. at_first c.args.limit c.args.framing c.new.result c.first_left.result c.new.ensures c.first_left.ensures,
  λ bad. absurd (first_not_bad c.args.limit c.args.framing c.new.result c.first_state.result c.new.ensures
      (subst (λ (t : List ℕ). HasState c.args.limit c.args.framing t c.first_state.result) (sym c.new.ensures) c.first_state.ensures) bad),
  sym (ap (λ (l : List ℕ). min (length l) most_counted) c.new.ensures),
)
