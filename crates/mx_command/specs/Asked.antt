-- What a command line may ask for.
use Rattle.std.specs.Prelude.{◌≡◌, true}
use Rattle.mx_types.specs.Limits.{IsHistory}
use Rattle.mx_run_io.specs.Options.{are_within}
use Rattle.mx_command.specs.Saving.{IsSaveAsked}
use Rattle.mx_command.specs.declared.asked.Asked.{Asked}
use Rattle.mx_command.specs.declared.asked.Asked.TheVariants.{Task, Explain, Get, Save}
use Rattle.mx_command.specs.declared.task.Task.{Task as Tasks}
use Rattle.mx_command.specs.declared.task.Task.TheVariants.{Body, Play}

-- a history is within its limits
abbrev pub IsTask : Tasks → Type 0
IsTask (Body method) = Unit {0}
IsTask (Play history first) = IsHistory history

-- a task that is one, options within their limits, or what `save` may be asked for
abbrev pub IsAsked : Asked → Type 0
IsAsked (Task task) = IsTask task
IsAsked (Explain method) = Unit {0}
IsAsked (Get get) = are_within get.options ≡ true
IsAsked (Save save) = IsSaveAsked save
