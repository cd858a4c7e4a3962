-- What becomes of the parts that are out, where a run removes them all.
use Rattle.std.specs.Prelude.{◌≡◌, ℕ, List, ◌∷◌, ◌++◌, map, reverse, Option}
use Rattle.std.specs.List.{flat_map}
use Rattle.mx_folder.specs.Names.{part_of}
use Rattle.mx_folder.specs.Steps.{refused_calls}
use Rattle.mx_folder.specs.declared.errors.FolderError.{FolderError}
use Rattle.mx_save.specs.Bodies.{left_of}
use Rattle.mx_save.specs.Ledgers.{LedgerValue}
use Rattle.mx_save.specs.Tries.{removal_of, removed_by}

-- rule file-no-part-left
-- The folder was asked to remove each part that was out, once, the newest first, and nothing else was done: these are the answers, the last
-- first, each with the number of its part. A part is left where the folder refused that, and it refused no other call.
pub record IsSwept {B : Type 0} (old new : LedgerValue B) : Type 0 where
  pub answers : List (ℕ × Option FolderError)
  pub each : reverse (map (λ a. a.0) answers) ≡ old.out
  pub steps : new.steps ≡ map (λ a. removed_by a.1 (part_of old.process a.0)) answers ++ old.steps
  pub left : new.left ≡ flat_map (λ a. left_of (part_of old.process a.0) a.1) answers ++ old.left
  pub calls : refused_calls new.steps ≡ flat_map (λ a. removal_of (part_of old.process a.0) a.1) answers ++ refused_calls old.steps

-- Private: the same of one part, after which these are out
pub record IsSweptOnce {B : Type 0} (old new : LedgerValue B) : Type 0 where
  pub number : ℕ
  pub why : Option FolderError
  pub is : new ≡ record old {
    steps = removed_by why (part_of old.process number) ∷ old.steps;
    out = new.out;
    left = left_of (part_of old.process number) why ++ old.left;
  }
  pub out : old.out ≡ number ∷ new.out
