-- Parts that a ledger made.
use Rattle.std.specs.Prelude.{ℕ, ◌==◌, if◌then◌else◌, List, [], ◌∷◌}
use Rattle.mx_folder.specs.Parts.{PartValue}

-- the process and the number by which it is named, and the part
pub record MadeValue : Type 0 where
  pub process : ℕ
  pub number : ℕ
  pub part : PartValue

-- the numbers, without the first that is this one
abbrev pub without : ℕ → List ℕ → List ℕ
without number [] = []
without number (n ∷ numbers) = if n == number then numbers else n ∷ without number numbers
