-- What holds of a run's saves. Bodies are of any type, of which `content` gives the bytes.
use Rattle.std.specs.Prelude.{◌≡◌, ◌≢◌, ◌⊎◌, ℕ, ◌+◌, ◌≤◌, Bool, true, false, List, [], ◌∷◌, ◌++◌, length, map, Option, Some, None}
use Rattle.std.specs.List.{Contains, AllByRecursion}
use Rattle.mx_folder.specs.Names.{part_of}
use Rattle.mx_folder.specs.Safe.{IsSafeName}
use Rattle.mx_folder.specs.Laws.{AreDistinct}
use Rattle.mx_folder.specs.declared.errors.FolderError.{FolderError}
use Rattle.mx_folder.specs.declared.errors.FolderError.TheVariants as why
use Rattle.mx_folder.specs.declared.steps.Step.{Step}
use Rattle.mx_folder.specs.declared.steps.Step.TheVariants.{Refused}
use Rattle.mx_folder.specs.declared.steps.FolderCall.TheVariants as call
use Rattle.mx_folder.specs.Files.{File, holding, file}
use Rattle.mx_folder.specs.Moments.{AtEachMoment, IsLater}
use Rattle.mx_folder.specs.Steps.{refusals}
use Rattle.mx_save.specs.declared.error.SaveError.{SaveError}
use Rattle.mx_save.specs.declared.error.SaveError.TheVariants as error
use Rattle.mx_save.specs.Bodies.{Holds, LeavesOnly}

-- what had been done to the folder when the run began, and what has been done by now; the bodies that were saved, with their names, the
-- newest first; whether they are flushed; the numbers of the parts that are out, which were made and haven't come back, the newest first; the
-- names of the parts that the folder refused to remove, the newest first; and the process for which parts are named, with the number of the next
pub record LedgerValue (B : Type 0) : Type 0 where
  pub start : List Step
  pub steps : List Step
  pub entries : List (List ℕ × B)
  pub flush : Bool
  pub out : List ℕ
  pub left : List (List ℕ)
  pub process : ℕ
  pub number : ℕ

-- each name of a file holds what it held, or, whole, a body that was saved under it
abbrev pub HasOnly : {B : Type 0} → (B → List ℕ) → Bool → List (List ℕ × B) → List Step → List Step → Type 0
HasOnly {B} content flushed entries old moment = (found : List ℕ → Option File) (name : List ℕ) → IsSafeName name
    → (file found moment name ≡ file found old name)
    ⊎ ((body : B) × Contains entries (name, body) × (file found moment name ≡ Some (holding (content body) flushed)))

-- each name holds its body
abbrev pub AllHold : {B : Type 0} → (B → List ℕ) → Bool → List (List ℕ × B) → List Step → Type 0
AllHold content flushed entries moment = AllByRecursion (λ entry. Holds entry.0 (content entry.1) flushed moment) entries

-- the name isn't among those of the entries
abbrev pub IsFresh : {B : Type 0} → List ℕ → List (List ℕ × B) → Type 0
IsFresh name entries = AllByRecursion (λ entry. name ≢ entry.0) entries

-- rule file-part-that-exists: A part that exists is left alone, and the next number is taken: a save fails for that only once 2^32 - 1 names
-- in a row were taken.
--
-- how many names are tried for a part before none is made, since all are taken
abbrev pub most_parts : ℕ
most_parts = 4294967295

-- whether the name of the part is taken
abbrev pub is_there : FolderError → Bool
is_there why.AlreadyThere = true
is_there _ = false

abbrev pub is_taken : SaveError → Option FolderError → Bool
is_taken (error.Create e) None = is_there e
is_taken _ _ = false

-- at some moment from old to new the folder refused to remove this part
abbrev pub RefusedToRemove : List Step → List Step → List ℕ → Type 0
RefusedToRemove old new part = (error : FolderError) × (moment : List Step) × IsLater old moment × IsLater (Refused call.Remove part error ∷ moment) new

-- Since the run began, each file was at each moment what it was before, or a whole body that was saved under its name; each such body is
-- there now; and the names are those of files, no two alike. The name of each part holds what it held, or nothing, but for those that are out and
-- those that are left, each of which the folder refused to remove: so many calls at least.
pub record IsLedger {B : Type 0} (content : B → List ℕ) (l : LedgerValue B) : Type 0 where
  pub since : AtEachMoment (HasOnly content l.flush l.entries l.start) l.start l.steps
  pub holds : AllHold content l.flush l.entries l.steps
  pub safe : AllByRecursion (λ entry. IsSafeName entry.0) l.entries
  pub distinct : AreDistinct (map (λ entry. entry.0) l.entries)
  pub leaves : LeavesOnly (map (part_of l.process) l.out ++ l.left) l.start l.steps
  pub refused : refusals l.start + length l.left ≤ refusals l.steps
  pub removals : AllByRecursion (RefusedToRemove l.start l.steps) l.left
