use Rattle.std.proofs.Common.{ap, arith, length, refl, subst, sym, true}
use Rattle.std.specs.Prelude.{IfSome}
use Rattle.std.proofs.lemmas.List.{length_push}
use Rattle.mx_run_get.proofs.Gets.{getting_left, getting_taken, taken_inside}
use Rattle.mx_run_get.proofs.Places.{take_awaits}
use Rattle.mx_run_get.specs.Getting.{AreAwaited, GettingValue}
use Rattle.mx_run_get.specs.Places.{TakesAt}
use Rattle.mx_run_get.proofs.getting.Getting.give_one.Goals as goal

pub invariant_of-self-in_err-take : goal.invariant_of-self-in_err-take
invariant_of-self-in_err-take g c =
    let t = subst (λ o. IfSome o (λ e. TakesAt c.self.inside.places.items c.count-at.result e c.take_at.new.places.items)) c.in-Some.is c.in_ok-end.ensures.taken in
    getting_left _ _ c.count-at.result c.in-Some.end refl refl (c.in_err-take.ensures.refused (refl {a = true})) t c.self.invariant

pub returns-in_err-take-clause-awaited : goal.returns-in_err-take-clause-awaited
returns-in_err-take-clause-awaited g c = λ asked all.
    let places = c.self.inside.places.items in
    let t = subst (λ o. IfSome o (λ e. TakesAt places c.count-at.result e c.take_at.new.places.items)) c.in-Some.is c.in_ok-end.ensures.taken in
    take_awaits places c.take_at.new.places.items c.count-at.result c.in-Some.end asked t (subst (λ (d : GettingValue). AreAwaited d.places asked) (sym c.self.view_is) all)

pub invariant_of-self-2 : goal.invariant_of-self-2
invariant_of-self-2 g c =
    let t = subst (λ o. IfSome o (λ e. TakesAt c.self.inside.places.items c.count-at.result e c.take_at.new.places.items)) c.in-Some.is c.in_ok-end.ensures.taken in
    getting_taken _ _ c.count-at.result c.in-Some.end refl refl c.count-at.ensures c.in_ok-take.ensures.taken t c.know.ensures c.self.invariant

pub returns-clause-given : goal.returns-clause-given
returns-clause-given g c = λ _.
    let places = c.self.inside.places.items in
    let before = g.T.TakeEnds.taken c.self.inside.taker in
    let t = subst (λ o. IfSome o (λ e. TakesAt places c.count-at.result e c.take_at.new.places.items)) c.in-Some.is c.in_ok-end.ensures.taken in
    let more = ap length c.in_ok-take.ensures.taken in
    let one = length_push before c.in-Some.end in
    let same = ap (λ (d : GettingValue). length d.taken) c.self.view_is in
    (omega (arith, more, one, same), omega (arith, more, one, c.count-at.ensures, taken_inside places c.take_at.new.places.items c.count-at.result c.in-Some.end t))

pub returns-clause-awaited : goal.returns-clause-awaited
returns-clause-awaited g c = λ asked all.
    let places = c.self.inside.places.items in
    let t = subst (λ o. IfSome o (λ e. TakesAt places c.count-at.result e c.take_at.new.places.items)) c.in-Some.is c.in_ok-end.ensures.taken in
    take_awaits places c.take_at.new.places.items c.count-at.result c.in-Some.end asked t (subst (λ (d : GettingValue). AreAwaited d.places asked) (sym c.self.view_is) all)
