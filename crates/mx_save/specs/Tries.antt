-- Which calls of a save the folder refused, and which names were tried for its part.
use Rattle.std.specs.Prelude.{◌≡◌, ◌≢◌, ℕ, zero, suc, ◌+◌, ◌^◌, ◌%◌, ◌<◌, List, [], ◌∷◌, ◌++◌, Option, Some, None}
use Rattle.mx_folder.specs.Names.{part_of}
use Rattle.mx_folder.specs.Moments.{IsLater}
use Rattle.mx_folder.specs.Steps.{refused_calls}
use Rattle.mx_folder.specs.declared.errors.FolderError.{FolderError}
use Rattle.mx_folder.specs.declared.errors.FolderError.TheVariants as why
use Rattle.mx_folder.specs.declared.steps.FolderCall.TheVariants as call
use Rattle.mx_folder.specs.declared.steps.Step.{Step}
use Rattle.mx_folder.specs.declared.steps.Step.TheVariants.{Removed, Refused}
use Rattle.mx_save.specs.declared.error.SaveError.{SaveError}
use Rattle.mx_save.specs.declared.error.SaveError.TheVariants as error
use Rattle.mx_save.specs.Ledgers.{LedgerValue, most_parts}

-- the call of this part that was refused, by the error: with the folder's error
abbrev pub refusal_of : List ℕ → SaveError → List Step
refusal_of part (error.Create e) = Refused call.Create part e ∷ []
refusal_of part (error.Write e) = Refused call.Append part e ∷ []
refusal_of part (error.Flush e) = Refused call.Flush part e ∷ []
refusal_of part (error.Place e) = Refused call.Place part e ∷ []
refusal_of part error.OutOfMemory = []

-- and its removal, where that was refused
abbrev pub removal_of : List ℕ → Option FolderError → List Step
removal_of part None = []
removal_of part (Some e) = Refused call.Remove part e ∷ []

-- what the removal of a part did, by the folder's error
abbrev pub removed_by : Option FolderError → List ℕ → Step
removed_by None part = Removed part
removed_by (Some e) part = Refused call.Remove part e

-- the last that was done was the removal of this part, with this answer
abbrev pub EndsWithRemoval : List Step → List Step → List ℕ → Option FolderError → Type 0
EndsWithRemoval old new part left = (between : List Step) × IsLater old between × (new ≡ removed_by left part ∷ between)

-- the number after this one, and that after so many
abbrev pub next_number : ℕ → ℕ
next_number n = (n + 1) % 2 ^ 64

abbrev pub number_after : ℕ → ℕ → ℕ
number_after zero first = first
number_after (suc n) first = next_number (number_after n first)

-- so many parts from the first number on couldn't be made, since their names were taken: the newest first
abbrev pub taken_parts : ℕ → ℕ → ℕ → List Step
taken_parts process first zero = []
taken_parts process first (suc n) = Refused call.Create (part_of process (number_after n first)) why.AlreadyThere ∷ taken_parts process first n

-- rule file-part-that-exists
-- Names were tried for a part, one after the other, each with the next number. All but the last one were taken. Besides these the folder refused
-- no calls but those that are given for the last.
pub record AreTried {B : Type 0} (old new : LedgerValue B) (last : List ℕ) (refused : List Step) : Type 0 where
  pub taken : ℕ
  pub few : taken < most_parts
  pub process : new.process ≡ old.process
  pub number : new.number ≡ next_number (number_after taken old.number)
  pub part : last ≡ part_of old.process (number_after taken old.number)
  pub calls : refused_calls new.steps ≡ refused ++ (taken_parts old.process old.number taken ++ refused_calls old.steps)

-- No part was made: memory for the last name was refused, or the folder refused the call that the error names, with its answer. Where no part
-- was made none is removed, so `left` is `None`.
abbrev pub IsRefusedBy : {B : Type 0} → LedgerValue B → LedgerValue B → SaveError → Option (List ℕ) → Option FolderError → Type 0
IsRefusedBy old new e None left = (e ≡ error.OutOfMemory) × (left ≡ None) × (part : List ℕ) × AreTried old new part []
IsRefusedBy old new e (Some part) left = (e ≢ error.OutOfMemory) × AreTried old new part (removal_of part left ++ refusal_of part e)

-- Private: the same of one name.
abbrev pub IsRefusedOnce : {B : Type 0} → LedgerValue B → LedgerValue B → SaveError → Option (List ℕ) → Option FolderError → Type 0
IsRefusedOnce old new e None left = (e ≡ error.OutOfMemory) × (left ≡ None) × (refused_calls new.steps ≡ refused_calls old.steps)
IsRefusedOnce old new e (Some part) left =
    (e ≢ error.OutOfMemory) × (part ≡ part_of old.process old.number) × (refused_calls new.steps ≡ (removal_of part left ++ refusal_of part e) ++ refused_calls old.steps)
