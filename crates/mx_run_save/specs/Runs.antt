-- What `run_save` did, by its exit status.
use Rattle.std.specs.Prelude.{◌≡◌, ◌⊎◌, ℕ, true, List, Option, Some, None, [], Result, IsSome, OnOk}
use Rattle.mx_folder.specs.declared.errors.FolderError.{FolderError}
use Rattle.mx_folder.specs.declared.steps.Step.{Step}
use Rattle.mx_command.specs.declared.save.Save.{Save}
use Rattle.mx_save_book.specs.Lines.{PrintedLineValue}
use Rattle.mx_save_rules.specs.declared.asking.Asking.{Asking}
use Rattle.mx_run_io.specs.declared.stop.Stop.{Stop}
use Rattle.mx_run_save.specs.Asked.{IsAskedBy, IsBodyFile, IsRefusedAlways}
use Rattle.mx_run_save.specs.Saved.{SavesIn, urls_of}
use Rattle.mx_run_save.specs.Status.{IsStatusOf, IsUnbegun}

-- A run that began, over a folder with one list of steps when it did: it asks of each URL what `save` is asked for. Its URLs are those of the
-- command line alone where no list is asked for, and unless it stopped each has ended. Its exit status is by the ends that it printed.
pub record IsRun (save : Save) (old : List Step) (status : ℕ) : Type 0 where
  pub asking : Asking
  pub asked : IsAskedBy save asking
  pub listed : Option (List (List ℕ))
  pub unlisted : save.input ≡ None → listed ≡ Some []
  pub new : List Step
  pub told : List PrintedLineValue
  pub stopped : Result Unit Stop
  pub flushed : Result Unit FolderError
  pub saves : OnOk stopped (SavesIn save asking (urls_of save listed) old new told)
  pub ends : IsStatusOf stopped flushed told status

-- Why a run couldn't begin, by its exit status: 26 comes only where a list is asked for, or a body of a file; 120 only where no request may have
-- what is asked for; and 121 only where objects are to be printed. Of memory that is refused (27), and of a folder that can't be made (23), std
-- gives no cause.
pub record IsUnbegunBy (save : Save) (status : ℕ) : Type 0 where
  pub is : IsUnbegun status
  pub unread : status ≡ 26 → IsSome save.input ⊎ IsBodyFile save.body
  pub refused : status ≡ 120 → IsRefusedAlways save
  pub unwritten : status ≡ 121 → save.flags.json ≡ true

-- the run couldn't begin, or it began and has ended
abbrev pub EndsSave : Save → List Step → ℕ → Type 0
EndsSave save old status = IsUnbegunBy save status ⊎ IsRun save old status
