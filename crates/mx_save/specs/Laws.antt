-- What holds of every history of a folder, and of every name of a part.
use Rattle.std.specs.Prelude.{◌≡◌, ◌⊎◌, ℕ, ◌<◌, ◌^◌, true, List, Option}
use Rattle.std.specs.List.{Contains}
use Rattle.mx_folder.specs.Names.{part_of}
use Rattle.mx_folder.specs.Safe.{IsSafeName}
use Rattle.mx_folder.specs.declared.steps.Step.{Step}
use Rattle.mx_folder.specs.Files.{File}
use Rattle.mx_folder.specs.Moments.{AtEachMoment, MayBeLeft}
use Rattle.mx_save.specs.Ledgers.{HasOnly}

-- Whatever a loss of power leaves under the name of a file, it is a body that was saved under it, whole, or could have been left there
-- before: where bodies are flushed.
abbrev pub WholeAfterLossOfPower : Type 0 → Type 0
WholeAfterLossOfPower B =
    (content : B → List ℕ) (entries : List (List ℕ × B)) (old new : List Step) → AtEachMoment (HasOnly content true entries old) old new
    → (found : List ℕ → Option File) (name bytes : List ℕ) → IsSafeName name → MayBeLeft found new name bytes
    → MayBeLeft found old name bytes ⊎ ((body : B) × Contains entries (name, body) × (bytes ≡ content body))

-- The name of a part tells the process and the number.
abbrev pub PartsAreDistinct : Type 0
PartsAreDistinct = (process other number next : ℕ) → process < 2 ^ 64 → other < 2 ^ 64 → number < 2 ^ 64 → next < 2 ^ 64
    → part_of process number ≡ part_of other next → (process ≡ other) × (number ≡ next)
