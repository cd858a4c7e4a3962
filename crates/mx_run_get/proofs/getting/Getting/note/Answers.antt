use Rattle.std.proofs.Common.{◌≡◌, ◌∙◌, refl, subst, sym, true}
use Rattle.std.specs.Prelude.{Ok, Some, slice_get}
use Rattle.mx_run_get.proofs.Gets.{getting_noted}
use Rattle.mx_run_get.specs.Getting.{GettingValue}
use Rattle.mx_run_get.specs.Places.{asked_at, is_awaiting}
use Rattle.mx_run_get.specs.declared.place.Place.{Place}
use Rattle.mx_run_get.proofs.getting.Getting.note.Goals as goal

pub invariant_of-self : goal.invariant_of-self
invariant_of-self g c =
    let e = c.args.ended in
    let asked = subst (λ (d : GettingValue). (p : Place) → slice_get d.places e.at ≡ Some p → is_awaiting p ≡ true → asked_at p ≡ Ok e.outcome.request) (sym c.self.view_is) c.requires.asked in
    let is = sym c.ended_at.ensures.awaited ∙ c.if-ended_at.true in
    getting_noted _ _ e.at e.outcome refl refl refl (c.ended_at.ensures.noted c.if-ended_at.true) asked is c.self.invariant
