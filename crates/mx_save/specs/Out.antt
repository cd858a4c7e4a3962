-- The parts that are out.
use Rattle.std.specs.Prelude.{◌≡◌, ℕ, List}
use Rattle.std.specs.List.{AllByRecursion}
use Rattle.mx_folder.specs.Names.{part_of}
use Rattle.mx_save.specs.declared.parts_out.OutPart.{OutPart}

-- Private: the process for which they are named, and their numbers, the newest first
pub record OutValue : Type 0 where
  pub process : ℕ
  pub numbers : List ℕ

-- Private: each has the name of its number
abbrev pub AreNamed : ℕ → List OutPart → Type 0
AreNamed process parts = AllByRecursion (λ part. part.name ≡ part_of process part.number) parts
