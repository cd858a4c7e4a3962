-- What a part of a folder has, and what its calls do to it.
use Rattle.std.specs.Prelude.{ℕ, Bool, true, false, List, [], ◌∷◌, ◌++◌, map, take, Result, Ok, Err}
use Rattle.mx_folder.specs.declared.errors.FolderError.{FolderError}
use Rattle.mx_folder.specs.declared.steps.FolderCall.{FolderCall}
use Rattle.mx_folder.specs.declared.steps.FolderCall.TheVariants as call
use Rattle.mx_folder.specs.declared.steps.Step.{Step}
use Rattle.mx_folder.specs.declared.steps.Step.TheVariants.{Refused}

-- its name, its bytes, and whether they are all on the disk; and the calls of it that were refused and that its folder doesn't know of yet, each
-- with the answer, the newest first
pub record PartValue : Type 0 where
  pub name : List ℕ
  pub bytes : List ℕ
  pub flushed : Bool
  pub refused : List (FolderCall × FolderError)

-- a part that was just made
abbrev pub empty_part : List ℕ → PartValue
empty_part name = record { name = name; bytes = []; flushed = false; refused = [] }

-- after an append, which adds as many bytes as it answers: a refused one adds none
abbrev pub appended : Result ℕ FolderError → List ℕ → PartValue → PartValue
appended (Ok n) bytes part = record part { bytes = part.bytes ++ take n bytes; flushed = false }
appended (Err error) bytes part = record part { refused = (call.Append, error) ∷ part.refused }

-- after a flush
abbrev pub flushed_by : {T : Type 0} → Result T FolderError → PartValue → PartValue
flushed_by (Ok _) part = record part { flushed = true }
flushed_by (Err error) part = record part { refused = (call.Flush, error) ∷ part.refused }

-- the folder knows of its refused calls
abbrev pub untold : PartValue → PartValue
untold part = record part { refused = [] }

-- refused calls of a part of this name, as steps of its folder
abbrev pub told : List ℕ → List (FolderCall × FolderError) → List Step
told name refused = map (λ r. Refused r.0 name r.1) refused

-- what its folder learns of a part that comes back
abbrev pub told_of : PartValue → List Step
told_of part = told part.name part.refused
