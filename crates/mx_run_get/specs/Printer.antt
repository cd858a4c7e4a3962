-- The ends that were printed.
use Rattle.std.specs.Prelude.{◌≡◌, ◌≢◌, ◌<◌, ℕ, true, List, Option}
use Rattle.mx_text.specs.declared.fetched.Fetched.{Fetched}
use Rattle.mx_text.specs.Texts.{texts_from, exit_status}
use Rattle.mx_run_io.specs.declared.output.Output.{Output}
use Rattle.mx_run_io.specs.Ends.{Wrote, has_failed_write}

-- an output, as it is and as it was at first, the ends that were printed, and their exit status
pub record PrinterValue (W : Type 0) : Type 0 where
  pub output : Output W
  pub begun : Output W
  pub printed : List Fetched
  pub status : ℕ

-- unless a write failed, the texts of these ends were written to the output, and nothing else, as far as it is known what its writer holds
pub record IsPrinter {W : Type 0} (contents : W → Option (List ℕ)) (p : PrinterValue W) : Type 0 where
  pub wrote : has_failed_write p.output ≢ true → Wrote contents p.begun p.output (texts_from 0 p.printed)
  pub status : p.status ≡ exit_status p.printed
  pub small : p.status < 121
