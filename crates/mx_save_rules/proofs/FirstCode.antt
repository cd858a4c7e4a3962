-- Whatever the order in which ends come, the first code that isn't 0 is found.
use Rattle.std.proofs.Common.{◌≡◌, ◌≢◌, ℕ, zero, suc, ◌≤◌, List, [], ◌∷◌, refl, sym, ◌∙◌, arith, inl, inr}
use Rattle.std.specs.Prelude.{Option, Some, None}
use Rattle.std.specs.List.{AllByRecursion, slice_get}
use Rattle.std.proofs.lemmas.Bool.Decides.{eqb_tells, leb_tells}
use Rattle.mx_save_rules.specs.declared.status.PlacedCode.{PlacedCode}
use Rattle.mx_save_rules.specs.Status.{first_code, earlier, after_note, after_notes, status_of, OrderDoesNotMatter}

-- what is kept is a number of the list, and not 0
abbrev IsOf : List ℕ → Option PlacedCode → Type 0
IsOf numbers None = Unit {0}
IsOf numbers (Some first) = (slice_get numbers first.place ≡ Some first.number) × (first.number ≢ 0)

-- something is kept, and its place is no later than that one
abbrev IsBy : Option PlacedCode → ℕ → Type 0
IsBy None place = ⊥
IsBy (Some first) place = first.place ≤ place

earlier_of : (numbers : List ℕ) (first : Option PlacedCode) (new : PlacedCode) → IsOf numbers first → slice_get numbers new.place ≡ Some new.number → new.number ≢ 0
    → IsOf numbers (earlier first new)
earlier_of numbers None new is at isnt = (at, isnt)
earlier_of numbers (Some first) new is at isnt =
    elim (leb_tells first.place new.place) as (λ _. IsOf numbers (earlier (Some first) new)) [
      | inl t ↦ rw t.0 is
      | inr f ↦ rw f.0 (at, isnt)
    ]

note_of : (numbers : List ℕ) (first : Option PlacedCode) (new : PlacedCode) → IsOf numbers first → slice_get numbers new.place ≡ Some new.number
    → IsOf numbers (after_note first new)
note_of numbers first new is at =
    elim (eqb_tells new.number 0) as (λ _. IsOf numbers (after_note first new)) [
      | inl t ↦ rw t.0 is
      | inr f ↦ rw f.0 (earlier_of numbers first new is at f.1)
    ]

notes_of : (numbers : List ℕ) (first : Option PlacedCode) (notes : List PlacedCode) → IsOf numbers first
    → AllByRecursion (λ note. slice_get numbers note.place ≡ Some note.number) notes → IsOf numbers (after_notes first notes)
notes_of numbers first [] is all = is
notes_of numbers first (new ∷ notes) is all = notes_of numbers (after_note first new) notes (note_of numbers first new is all.0) all.1

earlier_by : (first : Option PlacedCode) (new : PlacedCode) (place : ℕ) → IsBy first place → IsBy (earlier first new) place
earlier_by None new place by = absurd by
earlier_by (Some first) new place by =
    elim (leb_tells first.place new.place) as (λ _. IsBy (earlier (Some first) new) place) [
      | inl t ↦ rw t.0 by
      | inr f ↦ let less : new.place ≤ place = omega (arith, f.1, by) in rw f.0 less
    ]

note_by : (first : Option PlacedCode) (new : PlacedCode) (place : ℕ) → IsBy first place → IsBy (after_note first new) place
note_by first new place by =
    elim (eqb_tells new.number 0) as (λ _. IsBy (after_note first new) place) [
      | inl t ↦ rw t.0 by
      | inr f ↦ rw f.0 (earlier_by first new place by)
    ]

notes_by : (first : Option PlacedCode) (notes : List PlacedCode) (place : ℕ) → IsBy first place → IsBy (after_notes first notes) place
notes_by first [] place by = by
notes_by first (new ∷ notes) place by = notes_by (after_note first new) notes place (note_by first new place by)

earlier_here : (first : Option PlacedCode) (new : PlacedCode) → IsBy (earlier first new) new.place
earlier_here None new = omega arith
earlier_here (Some first) new =
    elim (leb_tells first.place new.place) as (λ _. IsBy (earlier (Some first) new) new.place) [
      | inl t ↦ rw t.0 t.1
      | inr f ↦ let same : new.place ≤ new.place = omega arith in rw f.0 same
    ]

note_here : (first : Option PlacedCode) (new : PlacedCode) → new.number ≢ 0 → IsBy (after_note first new) new.place
note_here first new isnt =
    elim (eqb_tells new.number 0) as (λ _. IsBy (after_note first new) new.place) [
      | inl t ↦ absurd (isnt t.1)
      | inr f ↦ rw f.0 (earlier_here first new)
    ]

noted_by : (first : Option PlacedCode) (notes : List PlacedCode) (k : ℕ) (note : PlacedCode) → slice_get notes k ≡ Some note → note.number ≢ 0
    → IsBy (after_notes first notes) note.place
noted_by first [] k note at isnt = absurd (cc)
noted_by first (new ∷ notes) zero note at isnt =
    let same : new ≡ note = cc in
    let here : IsBy (after_note first note) note.place = note_here first note isnt in
    notes_by (after_note first new) notes note.place (rw same here)
noted_by first (new ∷ notes) (suc k) note at isnt = noted_by (after_note first new) notes k note at isnt

first_at : (numbers : List ℕ) (place number : ℕ) → slice_get numbers place ≡ Some number → number ≢ 0
    → ((p m : ℕ) → slice_get numbers p ≡ Some m → m ≢ 0 → place ≤ p) → number ≡ first_code numbers
first_at [] place number at isnt low = absurd (cc)
first_at (n ∷ numbers) zero number at isnt low =
    let same : n ≡ number = cc in
    elim (eqb_tells n 0) as (λ _. number ≡ first_code (n ∷ numbers)) [
      | inl t ↦ absurd (isnt (sym same ∙ t.1))
      | inr f ↦ rw f.0 (sym same)
    ]
first_at (n ∷ numbers) (suc place) number at isnt low =
    elim (eqb_tells n 0) as (λ _. number ≡ first_code (n ∷ numbers)) [
      | inl t ↦ rw t.0 (first_at numbers place number at isnt (λ p m there is. let less = low (suc p) m there is in omega (arith, less)))
      | inr f ↦ let none : suc place ≤ 0 = low 0 n refl f.1 in absurd (omega (arith, none))
    ]

no_first : (numbers : List ℕ) → ((p m : ℕ) → slice_get numbers p ≡ Some m → m ≢ 0 → ⊥) → 0 ≡ first_code numbers
no_first [] none = refl
no_first (n ∷ numbers) none =
    elim (eqb_tells n 0) as (λ _. 0 ≡ first_code (n ∷ numbers)) [
      | inl t ↦ rw t.0 (no_first numbers (λ p m there is. none (suc p) m there is))
      | inr f ↦ absurd (none 0 n refl f.1)
    ]

found : (numbers : List ℕ) (kept : Option PlacedCode) → IsOf numbers kept → ((p m : ℕ) → slice_get numbers p ≡ Some m → m ≢ 0 → IsBy kept p)
    → status_of kept ≡ first_code numbers
found numbers None is by = no_first numbers by
found numbers (Some first) is by = first_at numbers first.place first.number is.0 is.1 by

pub order_does_not_matter : OrderDoesNotMatter
order_does_not_matter numbers notes are =
    found numbers (after_notes None notes) (notes_of numbers None notes tt are.truly)
    (λ p m there is. let note = are.all p m there is in noted_by None notes note.0 (record { place = p; number = m }) note.1 is)
