-- What `body --explain` reports beside what `body` prints: of a whole response nothing; of another the line of its code, and why it isn't
-- whole.
use Rattle.std.specs.Prelude.{◌≡◌, ℕ, ◌⊎◌, true, List, [], ◌++◌, Option, Some, None}
use Rattle.mx_types.specs.declared.code.Code.{Code}
use Rattle.mx_types.specs.declared.code.Code.TheVariants as code
use Rattle.mx_types.specs.declared.method.Method.{Method}
use Rattle.mx_body.specs.declared.verdict.Verdict.{Verdict}
use Rattle.mx_body.specs.declared.verdict.Verdict.TheVariants as verdict
use Rattle.mx_body.specs.Decision.{IsVerdict}
use Rattle.mx_reason.specs.declared.reason.Reason.{Reason}
use Rattle.mx_reason.specs.Reasons.{IsReason, BeginsWithAny}
use Rattle.mx_text.specs.declared.report.FailureReport.{FailureReport}
use Rattle.mx_text.specs.Lines.{body_lines}
use Rattle.mx_run_local.specs.Reading.{WasRead}

-- why these bytes aren't a whole response; none, where the first of them are one
abbrev pub IsWhyNone : Method → List ℕ → Option Reason → Type 0
IsWhyNone m bytes (Some reason) = IsReason m bytes reason
IsWhyNone m bytes None = (front : List ℕ) × (behind : List ℕ) × (bytes ≡ front ++ behind) × BeginsWithAny m front

-- what is reported of a verdict on these bytes, which are all
abbrev pub TellsVerdict : Method → List ℕ → Verdict → (List ℕ → Type 0) → Type 0
TellsVerdict m bytes (verdict.Complete status len parts keep) Written = Written []
TellsVerdict m bytes verdict.More Written = ⊥
TellsVerdict m bytes (verdict.Fault c) Written = (reason : Option Reason) × IsWhyNone m bytes reason × Written (body_lines c reason)

-- Private: what is reported by a code alone; and what is reported of a verdict.
abbrev pub code_alone : Code → Option FailureReport
code_alone c = Some (record { code = c; reason = None })

abbrev pub IsTold : Method → List ℕ → Verdict → Option FailureReport → Type 0
IsTold m bytes (verdict.Fault c) told = (reason : Option Reason) × IsWhyNone m bytes reason × (told ≡ Some (record { code = c; reason = reason }))
IsTold m bytes _ told = told ≡ None

-- Private: the lines of what is reported
abbrev pub told_lines : Option FailureReport → List ℕ
told_lines None = []
told_lines (Some told) = body_lines told.code told.reason

-- rule program-explain: With `--explain` what `body` and `get` print and end with stays the same, and what failed is reported on standard
-- error.
--
-- What is reported is of the verdict on what was read; or it is out of memory.
abbrev pub TellsRead : Method → Option (List ℕ) → Option (List ℕ) → (List ℕ → Type 0) → Type 0
TellsRead m known left Written =
    Written (body_lines code.OutOfMemory None)
    ⊎ ((bytes : List ℕ) × WasRead known left bytes × ((v : Verdict) × IsVerdict m bytes true v × TellsVerdict m bytes v Written))
