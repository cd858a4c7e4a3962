-- What saving a body does to a folder.
use Rattle.std.specs.Prelude.{◌≡◌, ◌≢◌, ◌⊎◌, ℕ, Bool, List, [], ◌∷◌, Option, Some, None}
use Rattle.std.specs.List.{Contains}
use Rattle.mx_folder.specs.declared.errors.FolderError.{FolderError}
use Rattle.mx_folder.specs.declared.steps.Step.{Step}
use Rattle.mx_folder.specs.Files.{File, holding, file}
use Rattle.mx_folder.specs.Safe.{IsSafeName, IsPartName}

-- under this name is a file with these bytes and no others, which are all on the disk or aren't known to be
abbrev pub Holds : List ℕ → List ℕ → Bool → List Step → Type 0
Holds name bytes flushed moment = (found : List ℕ → Option File) → file found moment name ≡ Some (holding bytes flushed)

-- each name but that of the part holds what it held
abbrev pub IsOnlyPart : List ℕ → List Step → List Step → Type 0
IsOnlyPart part old moment = (found : List ℕ → Option File) (name : List ℕ) → name ≢ part → file found moment name ≡ file found old name

-- nothing is under this name
abbrev pub IsGone : List ℕ → List Step → Type 0
IsGone name moment = (found : List ℕ → Option File) → file found moment name ≡ None

-- the part, where the folder refused to remove it
abbrev pub left_of : List ℕ → Option FolderError → List (List ℕ)
left_of part None = []
left_of part (Some why) = part ∷ []

-- rule file-no-part-left: No part is left but one that the folder refused to remove, whose name is told where its URL is reported.
--
-- the name of each part holds what it held, or nothing, but for these
abbrev pub LeavesOnly : List (List ℕ) → List Step → List Step → Type 0
LeavesOnly left old new = (found : List ℕ → Option File) (name : List ℕ) → IsPartName name
    → (file found new name ≡ file found old name) ⊎ ((file found new name ≡ None) ⊎ Contains left name)

-- rule file-refused-save: A refused call leaves each file as it was.
--
-- each name of a file holds what it held
abbrev pub FilesAreKept : List Step → List Step → Type 0
FilesAreKept old new = (found : List ℕ → Option File) (name : List ℕ) → IsSafeName name → file found new name ≡ file found old name

-- rule file-whole-body: A body has its name only when all of it was written, and flushed where that is asked for.
--
-- each name but that of the part holds what it held, or it is this one and holds this body, whole
abbrev pub IsBeforeOrAfter : List ℕ → List ℕ → List ℕ → Bool → List Step → List Step → Type 0
IsBeforeOrAfter part final body flushed old moment = (found : List ℕ → Option File) (name : List ℕ) → name ≢ part
    → (file found moment name ≡ file found old name) ⊎ ((name ≡ final) × (file found moment name ≡ Some (holding body flushed)))
