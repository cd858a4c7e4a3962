-- The parts that are out.
use Rattle.std.proofs.Common.{◌≡◌, ◌≢◌, ℕ, zero, suc, ◌+◌, ◌<◌, ◌==◌, List, [], ◌∷◌, map, length, get_or, refl, ap, sym, subst, ◌∙◌, arith, inl, inr}
use Rattle.std.specs.List.{Contains, remove}
use Rattle.std.proofs.lemmas.Bool.{cases_lt, cond-true, cond-false, eq-eqb, false_from_ne_true, eqb-true}
use Rattle.std.proofs.lemmas.List.{get_or_default}
use Rattle.mx_save.specs.declared.parts_out.OutPart.{OutPart}
use Rattle.mx_save.specs.Made.{without}
use Rattle.mx_save.specs.Out.{OutValue}

-- the first is taken out
pub without_first : (number : ℕ) (numbers : List ℕ) → without number (number ∷ numbers) ≡ numbers
without_first number numbers = cond-true (number == number) numbers (number ∷ without number numbers) (eq-eqb number number refl)

-- a part that was put in is taken out again
pub taken_back : (number : ℕ) (old mid new : OutValue) → mid ≡ record old { numbers = number ∷ old.numbers } → new ≡ record mid { numbers = without number mid.numbers } → new ≡ old
taken_back number old mid new put taken =
    let view : OutValue → OutValue = λ o. record o { numbers = without number o.numbers } in
    let with_numbers : List ℕ → OutValue = λ ns. record old { numbers = ns } in
    taken ∙ ap view put ∙ ap with_numbers (without_first number old.numbers)

-- the part at a place is the first of its number
pub removed_without : (number : ℕ) (numbers : List ℕ) (place : ℕ) → place < length numbers → get_or numbers place 0 ≡ number
    → ((k : ℕ) → k < place → get_or numbers k 0 ≢ number) → remove numbers place ≡ without number numbers
removed_without number [] place within there first = absurd (omega (arith, within))
removed_without number (n ∷ numbers) zero within there first =
    sym (cond-true (n == number) numbers (n ∷ without number numbers) (eq-eqb n number there))
removed_without number (n ∷ numbers) (suc place) within there first =
    ap (λ l. n ∷ l) (removed_without number numbers place (omega (arith, within)) there (λ k less. first (suc k) (omega (arith, less))))
    ∙ sym (cond-false (n == number) numbers (n ∷ without number numbers)
    (false_from_ne_true (n == number) (λ e. first 0 (omega arith) (eqb-true n number e))))

-- the numbers of the others
pub numbers_rest : (parts : List OutPart) (place : ℕ) → map (λ part. part.number) (remove parts place) ≡ remove (map (λ part. part.number) parts) place
numbers_rest [] zero = refl
numbers_rest [] (suc place) = refl
numbers_rest (part ∷ parts) zero = refl
numbers_rest (part ∷ parts) (suc place) = ap (λ l. part.number ∷ l) (numbers_rest parts place)

-- the number is at this place, or after it
pub place_within : (number : ℕ) (numbers : List ℕ) (place : ℕ) → Contains numbers number → ((k : ℕ) → k < place → get_or numbers k 0 ≢ number) → place < length numbers
place_within number numbers place has first =
    elim (cases_lt has.0 place) [
      | inl less ↦ absurd (first has.0 less (get_or_default numbers has.0 0 number has.1 ∙ has.2))
      | inr more ↦ omega (arith, has.1, more)
    ]

-- nor at this place
pub none_further : (number : ℕ) (numbers : List ℕ) (place : ℕ) → ((k : ℕ) → k < place → get_or numbers k 0 ≢ number) → get_or numbers place 0 ≢ number
    → (k : ℕ) → k < place + 1 → get_or numbers k 0 ≢ number
none_further number numbers place first differ k less =
    elim (cases_lt k place) [
      | inl before ↦ first k before
      | inr after ↦ let is : k ≡ place = omega (arith, less, after) in subst (λ i. get_or numbers i 0 ≢ number) (sym is) differ
    ]

-- the number of the part at a place
pub number_at : (parts : List OutPart) (place : ℕ) (d : OutPart) → place < length (map (λ part. part.number) parts)
    → get_or (map (λ part. part.number) parts) place 0 ≡ (get_or parts place d).number
number_at [] place d within = absurd (omega (arith, within))
number_at (part ∷ parts) zero d within = refl
number_at (part ∷ parts) (suc place) d within = number_at parts place d (omega (arith, within))
