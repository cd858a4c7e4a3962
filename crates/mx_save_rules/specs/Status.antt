-- The exit status of a run.
use Rattle.std.specs.Prelude.{◌≡◌, ◌≢◌, ℕ, ◌==◌, nat_le, if◌then◌else◌, List, [], ◌∷◌, Option, Some, None}
use Rattle.std.specs.List.{AllByRecursion, slice_get}
use Rattle.mx_save_rules.specs.declared.status.PlacedCode.{PlacedCode}
use Rattle.mx_save_rules.specs.declared.status.ExitStatus.{ExitStatus}

-- the plain definition: the first number that isn't 0, in the order of the URLs; 0 where there is none
abbrev pub first_code : List ℕ → ℕ
first_code [] = 0
first_code (number ∷ numbers) = if number == 0 then first_code numbers else number

-- what is kept of the ends so far
abbrev pub first_of : ExitStatus → Option PlacedCode
first_of status = status.first

-- of two, the one whose URL comes first
abbrev pub earlier : Option PlacedCode → PlacedCode → Option PlacedCode
earlier None new = Some new
earlier (Some first) new = if nat_le first.place new.place then Some first else Some new

abbrev pub after_note : Option PlacedCode → PlacedCode → Option PlacedCode
after_note first new = if new.number == 0 then first else earlier first new

abbrev pub after_notes : Option PlacedCode → List PlacedCode → Option PlacedCode
after_notes first [] = first
after_notes first (new ∷ notes) = after_notes (after_note first new) notes

abbrev pub status_of : Option PlacedCode → ℕ
status_of None = 0
status_of (Some first) = first.number

-- The notes are of these numbers, in any order: each has the number at its place, and none that isn't 0 is left out.
pub record AreNotesOf (numbers : List ℕ) (notes : List PlacedCode) : Type 0 where
  pub truly : AllByRecursion (λ note. slice_get numbers note.place ≡ Some note.number) notes
  pub all : (place number : ℕ) → slice_get numbers place ≡ Some number → number ≢ 0
      → (k : ℕ) × (slice_get notes k ≡ Some (record { place = place; number = number }))

-- rule save-exit-status: The exit status is the first code that isn't 0, in the order of the URLs, in whatever order they end.
abbrev pub OrderDoesNotMatter : Type 0
OrderDoesNotMatter = (numbers : List ℕ) (notes : List PlacedCode) → AreNotesOf numbers notes → status_of (after_notes None notes) ≡ first_code numbers
