use Rattle.std.proofs.Common.{◌≡◌, ◌∙◌, ap, length, refl, subst, sym}
use Rattle.std.specs.Prelude.{Ok, Some}
use Rattle.mx_run_get.proofs.Gets.{awaited_more, getting_more}
use Rattle.mx_run_get.specs.Getting.{AreAwaited, GettingValue, asked_next}
use Rattle.mx_run_get.specs.declared.place.Place.TheVariants.{Awaited}
use Rattle.mx_run_get.proofs.getting.Getting.add_request.Goals as goal

pub invariant_of-self-in-Made : goal.invariant_of-self-in-Made
invariant_of-self-in-Made g c =
    let next = subst (λ (d : GettingValue). asked_next d ≡ Some (Ok c.args.request)) (sym c.self.view_is) c.requires.next in
    getting_more _ _ (Awaited c.of-asked.result) refl refl refl c.in_ok-push-in-Made.ensures.items (next ∙ ap (λ r. Some (Ok r)) (sym c.of-asked.ensures)) c.self.invariant

pub returns-in_ok-push-in-Made-clause-all : goal.returns-in_ok-push-in-Made-clause-all
returns-in_ok-push-in-Made-clause-all g c =
    let old = c.args.desk.now in
    let new = c.add.new.self in
    let all = subst (λ (d : GettingValue). AreAwaited d.places old.asked) (sym c.self.view_is) c.requires.all in
    let adds = c.in-Made.ensures.added in
    awaited_more c.self.inside.places.items c.push.new.self.items old.asked new.asked (length c.as_slice.result.now) (Awaited c.of-asked.result) c.args.request
    (ap length c.as_slice.ensures.value) c.in_ok-push-in-Made.ensures.items adds.free adds.asked (ap Ok c.of-asked.ensures) all

pub returns-in-Refused-clause-all : goal.returns-in-Refused-clause-all
returns-in-Refused-clause-all g c = subst (λ asked. AreAwaited c.args.self.now.places asked) (sym c.in-Refused.ensures.added.asked) c.requires.all
