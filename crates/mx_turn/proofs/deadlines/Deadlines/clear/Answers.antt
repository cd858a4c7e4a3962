use Rattle.std.proofs.Common.{rules, sym, ap, ◌∙◌, subst, arith}
use Rattle.arrayvec.proofs.ArrayVecLemmas.{filter-from_retain}
use Rattle.mx_turn.specs.InOrder.{IsInOrder, is_other, others}
use Rattle.mx_turn.proofs.Order.{IsInOrder-filter}
use Rattle.mx_turn.proofs.deadlines.Deadlines.clear.Goals as goal

pub invariant_of-self : goal.invariant_of-self
invariant_of-self c =
    let kept = filter-from_retain _ (is_other c.args.ticket) _ (λ x b f y k. search rules) _ _ c.retain.ensures.filtered in
    (subst IsInOrder (sym kept) (IsInOrder-filter (is_other c.args.ticket) _ c.self.invariant.0), omega arith)

pub returns : goal.returns
returns c =
    filter-from_retain _ (is_other c.args.ticket) _ (λ x b f y k. search rules) _ _ c.retain.ensures.filtered
    ∙ ap (others c.args.ticket) c.self.view_is
