-- Why a run of `get` stopped before each URL had its end, or could not print the ends.
use Rattle.std.specs.Prelude.{ℕ}
use Rattle.mx_run_io.specs.declared.stop.Stop.{Stop}
use Rattle.mx_run_io.specs.declared.stop.Stop.TheVariants as stop
use Rattle.mx_run_get.specs.declared.error.FetchError.{FetchError}
use Rattle.mx_run_get.specs.declared.error.FetchError.TheVariants as cause

-- the number of a cause
abbrev pub fetch_number : FetchError → ℕ
fetch_number cause.TooManyUrls = 1
fetch_number cause.OutOfMemory = 2
fetch_number cause.NoClock = 3
fetch_number cause.NoPoll = 4
fetch_number cause.NoThread = 5
fetch_number cause.NoMessage = 6
fetch_number cause.Unwritten = 7

-- why a run stopped, as its cause: one of `get` reads no list, and whether its output could be written is seen there
abbrev pub cause_of_stop : Stop → FetchError
cause_of_stop stop.OutOfMemory = cause.OutOfMemory
cause_of_stop stop.NoClock = cause.NoClock
cause_of_stop stop.NoPoll = cause.NoPoll
cause_of_stop stop.NoThread = cause.NoThread
cause_of_stop _ = cause.NoMessage
