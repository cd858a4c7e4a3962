-- What the names of a folder hold.
use Rattle.std.specs.Prelude.{ℕ, ◌+◌, Bool, if◌then◌else◌, List, [], ◌∷◌, Option, Some, None}
use Rattle.std.specs.Str.{bytes_eq}
use Rattle.mx_folder.specs.declared.steps.Step.{Step}
use Rattle.mx_folder.specs.declared.steps.Step.TheVariants.{Created, Placed, Removed, Looked, FolderFlushed, Refused}

-- what is under a name: a file with these bytes, and whether they are all on the disk; or a part, which was made and has no final name yet. Of a
-- part the steps of a folder tell which one it is, by its number among those that were made, and not what it has: that is a value of its own.
pub data File : Type 0 where
  holding : (bytes : List ℕ) (flushed : Bool) → File
  of_part : (number : ℕ) → File

-- how many parts were made
abbrev pub parts_made : List Step → ℕ
parts_made [] = 0
parts_made (Created _ ∷ before) = parts_made before + 1
parts_made (_ ∷ before) = parts_made before

-- rule file-steps: What a name of a folder holds follows from what was done to it.
--
-- the file under a name, after these steps, the newest first, in a folder that had what `found` says
abbrev pub file : (List ℕ → Option File) → List Step → List ℕ → Option File
file found [] name = found name
file found (Created part ∷ before) name =
    if bytes_eq name part then Some (of_part (parts_made before)) else file found before name
file found (Placed part final bytes flushed ∷ before) name =
    if bytes_eq name final then Some (holding bytes flushed) else (if bytes_eq name part then None else file found before name)
file found (Removed part ∷ before) name =
    if bytes_eq name part then None else file found before name
file found (Looked _ _ ∷ before) name = file found before name
file found (FolderFlushed ∷ before) name = file found before name
file found (Refused _ _ _ ∷ before) name = file found before name
