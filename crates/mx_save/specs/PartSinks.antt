-- A sink that writes to a part of a folder.
use Rattle.std.specs.Prelude.{◌≡◌, ℕ, false, List, [], ◌∷◌, ◌++◌, Option, Some, None}
use Rattle.mx_folder.specs.declared.errors.FolderError.{FolderError}
use Rattle.mx_folder.specs.declared.errors.FolderError.TheVariants as why
use Rattle.mx_folder.specs.declared.steps.FolderCall.{FolderCall}
use Rattle.mx_folder.specs.declared.steps.FolderCall.TheVariants as call
use Rattle.mx_folder.specs.Parts.{PartValue}
use Rattle.mx_sink.specs.declared.error.SinkError.{SinkError}
use Rattle.mx_sink.specs.declared.error.SinkError.TheVariants as error

-- the name of the part, the bytes that it has, the bytes that are gathered and not written yet, and why a write was refused, if one was
pub record PartSinkValue : Type 0 where
  pub name : List ℕ
  pub written : List ℕ
  pub gathered : List ℕ
  pub failure : Option FolderError

-- how many bytes are gathered at most
abbrev pub most_gathered : ℕ
most_gathered = 65536

-- all bytes that it took
abbrev pub got_of : PartSinkValue → List ℕ
got_of s = s.written ++ s.gathered

-- a new sink, for an empty part of this name
abbrev pub empty_sink : List ℕ → PartSinkValue
empty_sink name = record { name = name; written = []; gathered = []; failure = None }

-- the one write that was refused, if one was
abbrev pub refused_by : Option FolderError → List (FolderCall × FolderError)
refused_by None = []
refused_by (Some e) = (call.Append, e) ∷ []

-- a part that was never flushed, with these bytes
abbrev pub part_with : List ℕ → List ℕ → Option FolderError → PartValue
part_with name bytes failure = record { name = name; bytes = bytes; flushed = false; refused = refused_by failure }

-- the part of a sink
abbrev pub part_of : PartSinkValue → PartValue
part_of s = part_with s.name s.written s.failure

-- the sink's error for a write that the part refused with this one
abbrev pub told_as : FolderError → SinkError
told_as why.OutOfMemory = error.OutOfMemory
told_as _ = error.WriteError

-- the part of a sink after a write was refused with this error: it has a prefix of the bytes that the sink took
pub record IsUnfinished (s : PartSinkValue) (why : FolderError) (part : PartValue) : Type 0 where
  pub bytes : List ℕ
  pub rest : List ℕ
  pub prefix : got_of s ≡ bytes ++ rest
  pub is : part ≡ part_with s.name bytes (Some why)

-- where a write was refused before, the error is the same, and no write was tried again
abbrev pub IsAsItWas : PartSinkValue → FolderError → PartValue → Type 0
IsAsItWas s why part = (before : FolderError) → s.failure ≡ Some before → (why ≡ before) × (part ≡ part_of s)
