-- Why a run stopped, in words.
use Rattle.std.specs.Prelude.{ℕ, List, codes}
use Rattle.mx_run_get.specs.declared.error.FetchError.{FetchError}
use Rattle.mx_run_get.specs.declared.error.FetchError.TheVariants as cause

abbrev pub cause_words : FetchError → List ℕ
cause_words cause.TooManyUrls = codes "there are more than 256 URLs"
cause_words cause.OutOfMemory = codes "out of memory"
cause_words cause.NoClock = codes "the system's clock can't be read"
cause_words cause.NoPoll = codes "the system gives no poll of sockets, or has too many open files"
cause_words cause.NoThread = codes "a thread can't be started"
cause_words cause.NoMessage = codes "no message came of a transfer"
cause_words cause.Unwritten = codes "the output can't be written"
