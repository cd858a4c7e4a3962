-- The ends at places, and those that were taken there.
use Rattle.std.proofs.Common.{◌≡◌, ◌∙◌, refl, ap, sym, ℕ, ◌<◌, suc, zero, List, [], ◌∷◌, map, length, true, false, inl, inr, arith}
use Rattle.std.specs.Prelude.{Option, Some, Ok, slice_get, slice_set}
use Rattle.mx_request.specs.Request.{RequestValue}
use Rattle.mx_chain.specs.Outcomes.{OutcomeValue}
use Rattle.mx_fetch.proofs.Lists.{cases}
use Rattle.mx_text.specs.declared.fetched.Fetched.{Fetched}
use Rattle.mx_run_get.proofs.Ends.{asked_kept}
use Rattle.mx_run_get.specs.Asked.{asked_of}
use Rattle.mx_run_get.specs.Getting.{AreAwaited}
use Rattle.mx_run_get.specs.Places.{TakesAt, asked_at, is_awaiting, is_awaiting_at, noted_at}
use Rattle.mx_run_get.specs.declared.place.Place.{Place}
use Rattle.mx_run_get.specs.declared.place.Place.TheVariants.{Known, Taken}

-- a place at which an end is awaited is there
pub awaits_inside : (places : List Place) (i : ℕ) → is_awaiting_at places i ≡ true → i < length places
awaits_inside [] i is = let bad : false ≡ true = is in cc
awaits_inside (p ∷ ps) zero is = omega arith
awaits_inside (p ∷ ps) (suc i) is = let h = awaits_inside ps i is in omega (arith, h)

-- what an end is noted of is what was asked for there
pub note_keeps : (places : List Place) (i : ℕ) (o : OutcomeValue)
    → ((p : Place) → slice_get places i ≡ Some p → is_awaiting p ≡ true → asked_at p ≡ Ok o.request)
    → is_awaiting_at places i ≡ true → map asked_at (noted_at places i o) ≡ map asked_at places
note_keeps [] i o asked is = refl
note_keeps (p ∷ ps) zero o asked is = ap (λ a. a ∷ map asked_at ps) (asked_kept o ∙ sym (asked p refl is))
note_keeps (p ∷ ps) (suc i) o asked is = ap (λ rest. asked_at p ∷ rest) (note_keeps ps i o (λ q there waits. asked q there waits) is)

-- so it is where an end is taken
set_keeps : (places : List Place) (i : ℕ) (p q : Place) → slice_get places i ≡ Some p → asked_at q ≡ asked_at p → map asked_at (slice_set places i q) ≡ map asked_at places
set_keeps [] i p q at same = refl
set_keeps (r ∷ rs) zero p q at same = let is : r ≡ p = cc in ap (λ a. a ∷ map asked_at rs) (same ∙ ap asked_at (sym is))
set_keeps (r ∷ rs) (suc i) p q at same = ap (λ rest. asked_at r ∷ rest) (set_keeps rs i p q at same)

pub take_keeps : (places less : List Place) (i : ℕ) (e : Fetched) → TakesAt places i e less → map asked_at less ≡ map asked_at places
take_keeps places less i e t = ap (map asked_at) t.is ∙ set_keeps places i (Known e) (Taken t.seen) t.known (ap asked_of t.of)

-- and what is awaited is awaited still
pub take_awaits : (places less : List Place) (i : ℕ) (e : Fetched) (asked : List (Option RequestValue)) → TakesAt places i e less
    → AreAwaited places asked → AreAwaited less asked
take_awaits places less i e asked t all j p is waits =
    elim (cases places i j (Taken t.seen) p (ap (λ l. slice_get l j) (sym t.is) ∙ is)) as (λ _. (r : RequestValue) × (slice_get asked j ≡ Some (Some r)) × (asked_at p ≡ Ok r)) [
      | inl c ↦ let bad : false ≡ true = ap is_awaiting c.1 ∙ waits in absurd (cc)
      | inr c ↦ all j p c.1 waits
    ]
