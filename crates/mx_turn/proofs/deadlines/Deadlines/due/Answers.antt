use Rattle.std.proofs.Common.{◌≤◌, length, rules, sym, ap, ◌∙◌, subst, arith, not}
use Rattle.std.proofs.lemmas.Grind.{common_steps}
use Rattle.arrayvec.proofs.ArrayVecLemmas.{filter-from_retain}
use Rattle.mx_turn.specs.declared.deadlines.Deadline.{Deadline}
use Rattle.mx_turn.specs.InOrder.{IsInOrder, is_due, not_due_at}
use Rattle.mx_turn.proofs.Order.{IsInOrder-filter, due-length}
use Rattle.mx_turn.proofs.deadlines.Deadlines.due.Goals as goal

pub push-requires : goal.push-requires
push-requires c =
    let index = c.loop-deadline.deadline-index in
    let few = due-length c.as_slice-set.result.now c.args.now index (omega arith) in
    let all : length c.loop-deadline.due.items ≤ index = subst (λ due. length due ≤ index) (sym c.loop-deadline.invariant) few in
    (omega arith, omega arith)

pub loop-deadline-preserved : goal.loop-deadline-preserved
loop-deadline-preserved c = grind (arith, common_steps)

pub invariant_of-self : goal.invariant_of-self
invariant_of-self c =
    let passes = λ (d : Deadline). not (is_due c.args.now d) in
    let kept = filter-from_retain _ passes _ (λ x b f y k. search rules) _ _ c.retain.ensures.filtered in
    (subst IsInOrder (sym kept) (IsInOrder-filter passes _ c.self.invariant.0), omega arith)

pub returns-clause-kept : goal.returns-clause-kept
returns-clause-kept c =
    let passes = λ (d : Deadline). not (is_due c.args.now d) in
    filter-from_retain _ passes _ (λ x b f y k. search rules) _ _ c.retain.ensures.filtered
    ∙ ap (λ ds. not_due_at ds c.args.now) c.self.view_is

pub returns-clause-ordered : goal.returns-clause-ordered
returns-clause-ordered c =
    IsInOrder-filter (is_due c.args.now) _ (subst IsInOrder c.self.view_is c.self.invariant.0)
