-- The exit status of a run that saves.
use Rattle.std.specs.Prelude.{◌≡◌, ◌≢◌, ◌⊎◌, ℕ, List, map, None, Result, IfErr, IsErr, OnOk}
use Rattle.mx_folder.specs.declared.errors.FolderError.{FolderError}
use Rattle.mx_save_rules.specs.Status.{after_notes, status_of}
use Rattle.mx_save_book.specs.Lines.{PrintedLineValue, note_of}
use Rattle.mx_run_io.specs.declared.stop.Stop.{Stop}
use Rattle.mx_run_io.specs.declared.stop.Stop.TheVariants as stop

-- of a run that stopped: 121 where the output can't be written, 26 where the list can't be read, else 27
abbrev pub stop_number : Stop → ℕ
stop_number stop.Unwritten = 121
stop_number stop.Unread = 26
stop_number _ = 27

-- by the codes that were printed: the first that isn't 0, in the order of the URLs
abbrev pub codes_number : List PrintedLineValue → ℕ
codes_number told = status_of (after_notes None (map note_of told))

-- of a run that has ended: where it stopped, by why it did; else by the codes that were printed, but 23 where each of these is 0 and the
-- folder couldn't be flushed
pub record IsStatusOf (stopped : Result Unit Stop) (flushed : Result Unit FolderError) (told : List PrintedLineValue) (status : ℕ) : Type 0 where
  pub early : IfErr stopped (λ stop. status ≡ stop_number stop)
  pub failed : OnOk stopped (codes_number told ≢ 0 → status ≡ codes_number told)
  pub unflushed : OnOk stopped (codes_number told ≡ 0 → IsErr flushed → status ≡ 23)
  pub well : OnOk stopped (OnOk flushed (status ≡ codes_number told))

-- of a run that couldn't begin: 26 where the list, or the file of the body, can't be read, 120 where no request may have what is asked for,
-- 27 where memory is refused, 23 where the folder can't be made, and 121 where the object of such a run can't be written
abbrev pub IsUnbegun : ℕ → Type 0
IsUnbegun status = (status ≡ 26) ⊎ ((status ≡ 120) ⊎ ((status ≡ 27) ⊎ ((status ≡ 23) ⊎ (status ≡ 121))))
