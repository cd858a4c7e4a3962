-- The slots of URLs that have no end yet.
use Rattle.std.proofs.Common.{◌≡◌, ◌≢◌, ◌∙◌, refl, ap, sym, ℕ, ◌+◌, suc, zero, List, [], ◌∷◌, inl, inr, cond, arith}
use Rattle.std.specs.Prelude.{◌⊎◌, Some, None, count_by, slice_get, slice_set}
use Rattle.std.specs.List.{AllByRecursion}
use Rattle.std.proofs.lemmas.List.Sums.{sum_by-cons}
use Rattle.mx_save_book.specs.declared.job.Job.{Job}
use Rattle.mx_save_book.specs.declared.job.Slot.{Slot}
use Rattle.mx_save_book.specs.declared.job.Slot.TheVariants as slot
use Rattle.mx_save_book.specs.Jobs.{is_taken, job_at, job_of}

-- a slot whose content has changed has its URL, and each other has what it had
pub cases : (slots : List Slot) (i j : ℕ) (v : Slot) (p : Job) → job_at (slice_set slots i v) j ≡ Some p
    → ((j ≡ i) × (job_of v ≡ Some p)) ⊎ ((j ≢ i) × (job_at slots j ≡ Some p))
cases [] i j v p is = inr ((λ e. let bad : None ≡ Some p = is in cc), is)
cases (s ∷ ss) zero zero v p is = inl (refl, is)
cases (s ∷ ss) zero (suc j) v p is = inr ((λ e. omega (arith, e)), is)
cases (s ∷ ss) (suc i) zero v p is = inr ((λ e. omega (arith, e)), is)
cases (s ∷ ss) (suc i) (suc j) v p is =
    elim (cases ss i j v p is) [
      | inl c ↦ inl (ap suc c.0, c.1)
      | inr c ↦ inr ((λ e. c.0 (omega (arith, e))), c.1)
    ]

-- what is in another slot stays
pub stays : (slots : List Slot) (i j : ℕ) (v : Slot) → j ≢ i → job_at (slice_set slots i v) j ≡ job_at slots j
stays [] i j v other = refl
stays (s ∷ ss) zero zero v other = absurd (other refl)
stays (s ∷ ss) zero (suc j) v other = refl
stays (s ∷ ss) (suc i) zero v other = refl
stays (s ∷ ss) (suc i) (suc j) v other = stays ss i j v (λ e. other (ap suc e))

-- and the new one is in this slot
pub there : (slots : List Slot) (i : ℕ) (old v : Slot) → slice_get slots i ≡ Some old → job_at (slice_set slots i v) i ≡ job_of v
there [] i old v is = absurd (cc)
there (s ∷ ss) zero old v is = refl
there (s ∷ ss) (suc i) old v is = there ss i old v is

-- a slot that has a URL is there
pub inside : (slots : List Slot) (i : ℕ) (p : Job) → job_at slots i ≡ Some p → (s : Slot) × (slice_get slots i ≡ Some s) × (job_of s ≡ Some p)
inside [] i p is = absurd (cc)
inside (s ∷ ss) zero p is = (s, refl, is)
inside (s ∷ ss) (suc i) p is = inside ss i p is

weight : Slot → ℕ
weight s = cond (is_taken s) 1 0

front : (s : Slot) (ss : List Slot) → count_by is_taken (s ∷ ss) ≡ weight s + count_by is_taken ss
unfolding weight
front s ss = sum_by-cons (λ t. cond (is_taken t) 1 0) s ss

weighs : (s : Slot) (p : Job) → job_of s ≡ Some p → weight s ≡ 1
unfolding weight
weighs slot.Free p is = absurd (cc)
weighs (slot.Waiting job) p is = refl
weighs (slot.Open job number) p is = refl
weighs (slot.Added job ticket number) p is = refl

weighs_none : weight slot.Free ≡ 0
unfolding weight
weighs_none = refl

-- how many are taken once a slot has changed
counted : (slots : List Slot) (i : ℕ) (old v : Slot) → slice_get slots i ≡ Some old
    → count_by is_taken (slice_set slots i v) + weight old ≡ count_by is_taken slots + weight v
counted [] i old v is = absurd (cc)
counted (s ∷ ss) zero old v is = let same : s ≡ old = cc in omega (arith, front s ss, front v ss, ap weight same)
counted (s ∷ ss) (suc i) old v is = let h = counted ss i old v is in omega (arith, front s ss, front s (slice_set ss i v), h)

pub one_more : (slots : List Slot) (i : ℕ) (v : Slot) (p : Job) → slice_get slots i ≡ Some slot.Free → job_of v ≡ Some p
    → count_by is_taken (slice_set slots i v) ≡ count_by is_taken slots + 1
one_more slots i v p free is = omega (arith, counted slots i slot.Free v free, weighs_none, weighs v p is)

pub one_less : (slots : List Slot) (i : ℕ) (p : Job) → job_at slots i ≡ Some p
    → count_by is_taken (slice_set slots i slot.Free) + 1 ≡ count_by is_taken slots
one_less slots i p is =
    let s = inside slots i p is in
    omega (arith, counted slots i s.0 slot.Free s.1, weighs_none, weighs s.0 p s.2)

pub as_many : (slots : List Slot) (i : ℕ) (v : Slot) (p q : Job) → job_at slots i ≡ Some p → job_of v ≡ Some q
    → count_by is_taken (slice_set slots i v) ≡ count_by is_taken slots
as_many slots i v p q was is =
    let s = inside slots i p was in
    omega (arith, counted slots i s.0 v s.1, weighs s.0 p s.2, weighs v q is)

-- where none is taken, no URL is in one
pub none : (slots : List Slot) (i : ℕ) (p : Job) → count_by is_taken slots ≡ 0 → job_at slots i ≡ Some p → ⊥
none [] i p zero_taken is = absurd (cc)
none (s ∷ ss) zero p zero_taken is = omega (arith, front s ss, weighs s p is, zero_taken)
none (s ∷ ss) (suc i) p zero_taken is = none ss i p (omega (arith, front s ss, zero_taken)) is

-- where all are free, none is taken
pub fresh_none : (slots : List Slot) → AllByRecursion (λ s. s ≡ slot.Free) slots → (i : ℕ) (p : Job) → job_at slots i ≡ Some p → ⊥
fresh_none [] free i p is = absurd (cc)
fresh_none (s ∷ ss) free zero p is = let bad : None ≡ Some p = ap job_of (sym free.0) ∙ is in cc
fresh_none (s ∷ ss) free (suc i) p is = fresh_none ss free.1 i p is

pub fresh_count : (slots : List Slot) → AllByRecursion (λ s. s ≡ slot.Free) slots → count_by is_taken slots ≡ 0
fresh_count [] free = refl
fresh_count (s ∷ ss) free = omega (arith, front s ss, ap weight free.0, weighs_none, fresh_count ss free.1)
