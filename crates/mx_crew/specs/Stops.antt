-- Why there is no crew.
use Rattle.std.specs.Prelude.{Bool, true, false}
use Rattle.mx_run_io.specs.declared.stop.Stop.{Stop}
use Rattle.mx_run_io.specs.declared.stop.Stop.TheVariants as stop

-- memory was refused, or the system gave no poll or no thread
abbrev pub is_crew_stop : Stop → Bool
is_crew_stop stop.OutOfMemory = true
is_crew_stop stop.NoPoll = true
is_crew_stop stop.NoThread = true
is_crew_stop _ = false
