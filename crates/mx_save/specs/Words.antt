-- What is said of a body that wasn't saved.
use Rattle.std.specs.Prelude.{ℕ, Bool, true, false, if◌then◌else◌, List, [], ◌++◌, codes, Option, Some, None}
use Rattle.mx_folder.specs.declared.errors.FolderError.{FolderError}
use Rattle.mx_folder.specs.Words.{folder_words}
use Rattle.mx_save.specs.declared.error.SaveError.{SaveError}
use Rattle.mx_save.specs.declared.error.SaveError.TheVariants as error

-- the folder's error in words
abbrev pub save_words : SaveError → List ℕ
save_words (error.Create e) = folder_words e
save_words (error.Write e) = folder_words e
save_words (error.Flush e) = folder_words e
save_words (error.Place e) = folder_words e
save_words error.OutOfMemory = codes "out of memory"

-- whether no part could be made
abbrev pub is_create : SaveError → Bool
is_create (error.Create e) = true
is_create _ = false

-- the text about a part that is left
abbrev pub left_text : List ℕ → Option FolderError → List ℕ
left_text part None = []
left_text part (Some why) = codes "; the part " ++ (part ++ (codes " is left: " ++ folder_words why))

-- why it wasn't saved, with the name of a part that couldn't be made, or that is left
abbrev pub unsaved_text : SaveError → Option (List ℕ) → Option FolderError → List ℕ
unsaved_text e None left = save_words e
unsaved_text e (Some part) left =
    if is_create e then codes "the part " ++ (part ++ (codes " can't be made: " ++ save_words e)) else save_words e ++ left_text part left
