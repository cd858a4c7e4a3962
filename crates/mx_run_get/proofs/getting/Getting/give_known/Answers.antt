use Rattle.std.proofs.Common.{◌∙◌, subst, sym}
use Rattle.mx_run_get.specs.Getting.{AreAwaited, GettingValue}
use Rattle.mx_run_get.proofs.getting.Getting.give_known.Goals as goal

pub returns-in_err-give_one-clause-awaited : goal.returns-in_err-give_one-clause-awaited
returns-in_err-give_one-clause-awaited g c = λ asked all. c.give_one.ensures.awaited asked (c.loop-is_any.invariant.awaited asked all)

pub loop-is_any-preserved : goal.loop-is_any-preserved
loop-is_any-preserved g c =
    let same = c.give_one.ensures.same in
    let before = c.loop-is_any.invariant.same in
    record {
      awaited = λ asked all. c.give_one.ensures.awaited asked (c.loop-is_any.invariant.awaited asked all);
      same = (same.0 ∙ before.0, same.1 ∙ before.1, same.2 ∙ before.2);
    }

pub returns-in_err-flush-clause-awaited : goal.returns-in_err-flush-clause-awaited
returns-in_err-flush-clause-awaited g c = λ asked all.
    subst (λ (d : GettingValue). AreAwaited d.places asked) (sym c.self.view_is) (c.give_one.ensures.awaited asked (c.loop-is_any.invariant.awaited asked all))

pub returns-in_ok-flush-clause-awaited : goal.returns-in_ok-flush-clause-awaited
returns-in_ok-flush-clause-awaited g c = λ asked all.
    subst (λ (d : GettingValue). AreAwaited d.places asked) (sym c.self.view_is) (c.give_one.ensures.awaited asked (c.loop-is_any.invariant.awaited asked all))

pub returns-else-is_any-clause-awaited : goal.returns-else-is_any-clause-awaited
returns-else-is_any-clause-awaited g c = λ asked all. c.give_one.ensures.awaited asked (c.loop-is_any.invariant.awaited asked all)
