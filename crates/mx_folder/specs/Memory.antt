-- What a folder in memory keeps.
use Rattle.std.specs.Prelude.{◌≡◌, ℕ, List, [], ◌∷◌, map, reverse, Option, Some, None}
use Rattle.mx_folder.specs.declared.steps.Step.{Step}
use Rattle.mx_folder.specs.declared.steps.Step.TheVariants.{Created, Placed, Removed}
use Rattle.mx_folder.specs.declared.steps.Kind.{Kind}
use Rattle.mx_folder.specs.declared.steps.Kind.TheVariants as kind
use Rattle.mx_folder.specs.declared.memory.Done.{Done}
use Rattle.mx_folder.specs.declared.memory.Done.TheVariants as kept
use Rattle.mx_folder.specs.Files.{File, holding, of_part, file, parts_made}

abbrev pub step_of : Done → Step
step_of (kept.Created part) = Created part.items
step_of (kept.Placed part final bytes flushed) = Placed part.items final.items bytes.items flushed
step_of (kept.Removed part) = Removed part.items

-- what is kept, the newest first
abbrev pub steps_of : List Done → List Step
steps_of done = reverse (map step_of done)

-- what is kept has made as many parts as the steps have, and left the same files
pub record Replays (done : List Done) (steps : List Step) : Type 0 where
  pub made : parts_made steps ≡ parts_made (steps_of done)
  pub files : (found : List ℕ → Option File) (name : List ℕ) → file found steps name ≡ file found (steps_of done) name

-- a name of a folder that was empty at first
abbrev pub none : List ℕ → Option File
none name = None

-- the bytes that the folder has of a file: none of a part's, which are the part's own
abbrev pub kept_bytes : File → List ℕ
kept_bytes (holding bytes flushed) = bytes
kept_bytes (of_part number) = []

-- a folder in memory has regular files alone
abbrev pub kind_of : Option File → Kind
kind_of None = kind.Absent
kind_of (Some f) = kind.File

-- a step that makes no part, and leaves each name what it holds
abbrev pub ChangesNone : Step → Type 0
ChangesNone step = ((before : List Step) → parts_made (step ∷ before) ≡ parts_made before)
    × ((found : List ℕ → Option File) (before : List Step) (name : List ℕ) → file found (step ∷ before) name ≡ file found before name)
