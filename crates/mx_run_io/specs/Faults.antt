-- A run that ends with a fault.
use Rattle.std.specs.Prelude.{◌≡◌, ℕ, List, [], ◌∷◌, ◌++◌, codes}
use Rattle.std.specs.Fmt.{decimal}

-- the line of a fault
abbrev pub fault_line : ℕ → List ℕ
fault_line number = codes "FAULT " ++ (decimal number ++ 10 ∷ [])

-- rule program-failed-read: A failed read is `FAULT 56`, whatever came before.
--
-- What is written is the line of that fault, and the program ends with its number. Written says of a text whether it is all that was put
-- into the output, here and in the crates above: it is `Wrote` of the output's two states.
pub record PrintsFault (number : ℕ) (Written : List ℕ → Type 0) (ends_with : ℕ) : Type 0 where
  pub written : Written (fault_line number)
  pub status : ends_with ≡ number
