-- What is promised of the run of a task.
use Rattle.std.specs.Prelude.{ℕ, ◌+◌, Bool, List, Option}
use Rattle.mx_types.specs.Code.{code_number}
use Rattle.mx_types.specs.declared.code.Code.TheVariants as codes
use Rattle.mx_head.specs.Limits.{most_bytes}
use Rattle.mx_run_io.specs.Faults.{PrintsFault}
use Rattle.mx_run_local.specs.Reading.{ReadsUpTo}
use Rattle.mx_run_local.specs.Body.{AnswersRead}
use Rattle.mx_run_local.specs.Run.{AnswersScript, PrintsUnread, fresh, most_script_reads}
use Rattle.mx_command.specs.declared.task.Task.{Task as Tasks}
use Rattle.mx_command.specs.declared.task.Task.TheVariants.{Body, Play}

-- rule program-reads: `body` reads at most 67,108,866 times, `play` 4,294,967,295 times.
abbrev pub most_reads : Tasks → ℕ
most_reads (Body method) = most_bytes + 2
most_reads (Play history first) = most_script_reads

-- what a run prints and ends with where no read and no write failed
abbrev pub AnswersTask : Tasks → ℕ → ℕ → Option (List ℕ) → Option (List ℕ) → (List ℕ → Type 0) → ℕ → Type 0
AnswersTask (Body method) reads_before reads_after known left Written ends_with = AnswersRead method known left Written ends_with
AnswersTask (Play history first) reads_before reads_after known left Written ends_with =
    AnswersScript (fresh history first) reads_before reads_after known Written ends_with

-- what it prints and ends with where a read failed
abbrev pub PrintsFailedRead : Tasks → Option (List ℕ) → Option (List ℕ) → (List ℕ → Type 0) → ℕ → Type 0
PrintsFailedRead (Body method) known left Written ends_with = PrintsFault (code_number codes.RecvError) Written ends_with
PrintsFailedRead (Play history first) known left Written ends_with = PrintsUnread (fresh history first) known left Written ends_with

-- how far it reads
abbrev pub StopsReading : Tasks → Bool → Option (List ℕ) → Option (List ℕ) → Type 0
StopsReading (Body method) failed known left = ReadsUpTo most_bytes failed known left
StopsReading (Play history first) failed known left = Unit {0}
