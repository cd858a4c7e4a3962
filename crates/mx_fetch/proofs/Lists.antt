-- Lists of which one element has changed, and what follows where something went well: for those who fetch, too.
use Rattle.std.proofs.Common.{◌≡◌, ◌≢◌, refl, ap, ℕ, suc, zero, List, [], ◌∷◌, inl, inr, arith}
use Rattle.std.specs.Prelude.{◌⊎◌, Err, Ok, OnOk, Result, Some, slice_get, slice_set}

module _ {X : Type 0} where
  pub cases : (xs : List X) (i j : ℕ) (v x : X) → slice_get (slice_set xs i v) j ≡ Some x → ((j ≡ i) × (v ≡ x)) ⊎ ((j ≢ i) × (slice_get xs j ≡ Some x))
  cases [] i j v x is = absurd (cc)
  cases (y ∷ ys) zero zero v x is = inl (refl, cc)
  cases (y ∷ ys) zero (suc j) v x is = inr ((λ e. omega (arith, e)), is)
  cases (y ∷ ys) (suc i) zero v x is = inr ((λ e. omega (arith, e)), is)
  cases (y ∷ ys) (suc i) (suc j) v x is =
      elim (cases ys i j v x is) [
        | inl c ↦ inl (ap suc c.0, c.1)
        | inr c ↦ inr ((λ e. c.0 (omega (arith, e))), c.1)
      ]

  pub stays : (xs : List X) (i j : ℕ) (v : X) → j ≢ i → slice_get (slice_set xs i v) j ≡ slice_get xs j
  stays [] i j v other = refl
  stays (y ∷ ys) zero zero v other = absurd (other refl)
  stays (y ∷ ys) zero (suc j) v other = refl
  stays (y ∷ ys) (suc i) zero v other = refl
  stays (y ∷ ys) (suc i) (suc j) v other = stays ys i j v (λ e. other (ap suc e))

  pub there : (xs : List X) (i : ℕ) (x v : X) → slice_get xs i ≡ Some x → slice_get (slice_set xs i v) i ≡ Some v
  there [] i x v is = absurd (cc)
  there (y ∷ ys) zero x v is = refl
  there (y ∷ ys) (suc i) x v is = there ys i x v is

pub on_ok : {A E P R : Type 0} (r : Result A E) → (P → R) → OnOk r P → OnOk r R
on_ok (Ok a) f p = f p
on_ok (Err e) f p = tt
