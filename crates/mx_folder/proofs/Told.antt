-- Refused calls of a part, among the steps of its folder.
use Rattle.std.proofs.Common.{◌≡◌, ℕ, List, [], ◌∷◌, ◌++◌, Option, refl, ap}
use Rattle.mx_folder.specs.declared.errors.FolderError.{FolderError}
use Rattle.mx_folder.specs.declared.steps.FolderCall.{FolderCall}
use Rattle.mx_folder.specs.declared.steps.Step.{Step}
use Rattle.mx_folder.specs.declared.steps.Step.TheVariants.{Refused}
use Rattle.mx_folder.specs.Files.{File, file, parts_made}
use Rattle.mx_folder.specs.Parts.{told}
use Rattle.mx_folder.specs.Steps.{refused_calls}

-- they change no file
pub file_told : (found : List ℕ → Option File) (part : List ℕ) (refused : List (FolderCall × FolderError)) (steps : List Step) (name : List ℕ)
    → file found (told part refused ++ steps) name ≡ file found steps name
file_told found part [] steps name = refl
file_told found part (r ∷ refused) steps name = file_told found part refused steps name

-- and make no part
pub made_told : (part : List ℕ) (refused : List (FolderCall × FolderError)) (steps : List Step) → parts_made (told part refused ++ steps) ≡ parts_made steps
made_told part [] steps = refl
made_told part (r ∷ refused) steps = made_told part refused steps

-- and they are the calls that were refused
pub calls_told : (part : List ℕ) (refused : List (FolderCall × FolderError)) (steps : List Step)
    → refused_calls (told part refused ++ steps) ≡ told part refused ++ refused_calls steps
calls_told part [] steps = refl
calls_told part (r ∷ refused) steps = ap (λ l. Refused r.0 part r.1 ∷ l) (calls_told part refused steps)
