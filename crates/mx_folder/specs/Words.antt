-- What is said of a refusal.
use Rattle.std.specs.Prelude.{ℕ, List, codes}
use Rattle.mx_folder.specs.declared.errors.FolderError.{FolderError}
use Rattle.mx_folder.specs.declared.errors.FolderError.TheVariants as error

abbrev pub folder_words : FolderError → List ℕ
folder_words error.AlreadyThere = codes "something else has that name"
folder_words error.NotThere = codes "no such file or folder"
folder_words error.Denied = codes "the folder may not be written"
folder_words error.Full = codes "the disk is full"
folder_words error.TooManyOpen = codes "too many files are open: ulimit -n allows more"
folder_words error.TooLarge = codes "the file is over the limit of file sizes: ulimit -f allows more"
folder_words error.NotOpen = codes "the file is not open"
folder_words error.OutOfMemory = codes "out of memory"
folder_words error.Failed = codes "the system could not do it"
