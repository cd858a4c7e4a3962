-- One list that only grows, and what is known of it. The list exists in contracts alone.
use Rattle.std.specs.Prelude.{ℕ, ◌≡◌, ◌⊎◌, ◌==◌, Bool, true, List, [], ◌∷◌, ◌++◌, length, MatchBool}
use mathlib.Core.List.{IsPrefix}
use Rattle.logbook.specs.Pages.{Cell, Step, View, Book, Named}

-- rule board-marks: Of two marks of one journal the shorter is a prefix of the longer.
--
-- a prefix of the list that was reached, and which list it is
pub record Mark (T : Type 0) : Type 0 where
  pub entries : List T
  pub book : Book

-- the list's first word is its length; the second is not used
pub record IsKept {T : Type 0} (cells : List Cell) (entries : List T) : Type 0 where
  pub words : cells ≡ (length entries, true) ∷ (0, true) ∷ []

abbrev pub first_word : Book → Named
first_word b = record { tracked = true; key = 0; book = b }

-- where the length found is the one expected, the entry now comes after all that had been seen; else the whole list was seen
abbrev pub Appends : {T : Type 0} → Step T → View T ℕ → ℕ → View T ℕ → Type 0
Appends asked before found after = MatchBool (found == asked.old) (after.0 ≡ before.0 ++ asked.ask ∷ []) (length after.0 ≡ found)

-- the whole list was seen, and its length was found
abbrev pub Looks : {T : Type 0} → Step T → View T ℕ → ℕ → View T ℕ → Type 0
Looks asked before found after = length after.0 ≡ found

-- whether the first list is a prefix of the second
abbrev pub DecidesBeginning : {T : Type 0} → Bool → List T → List T → Type 0
DecidesBeginning b xs ys = MatchBool b (IsPrefix xs ys) (IsPrefix xs ys → ⊥)

-- of two prefixes of one list one is a prefix of the other
abbrev pub AreOfOneList : {T : Type 0} → List T → List T → Type 0
AreOfOneList xs ys = IsPrefix xs ys ⊎ IsPrefix ys xs
