use Rattle.std.proofs.Common.{refl, sym, ap, ◌∙◌, subst}
use Rattle.std.specs.List.{slice_get}
use Rattle.mx_save_rules.specs.declared.waiting.Wait.{Wait}
use Rattle.mx_save_rules.specs.Waits.{IsInOrder}
use Rattle.mx_save_rules.proofs.Order.{all_late}
use Rattle.mx_save_rules.proofs.waiting.Waiting.pop_due.Goals as goal

pub returns-then-first-now-clause-popped : goal.returns-then-first-now-clause-popped
returns-then-first-now-clause-popped c =
    let there = c.deref.ensures.value ∙ c.self.view_is in
    let first = sym (c.in_ok-first.ensures.value ∙ ap (λ ws. slice_get {X = Wait} ws 0) there) in
    (refl, all_late c.args.now c.args.self.now c.in_ok-first.field-0.now (subst IsInOrder c.self.view_is c.self.invariant) first c.if-first-now.true)
