-- What `body` prints: the text of the verdict on what was read.
use Rattle.std.specs.Prelude.{◌≡◌, ◌≢◌, ℕ, ◌-◌, ◌≤◌, ◌⊎◌, true, List, [], ◌++◌, length, Option, Some}
use Rattle.mx_types.specs.Code.{code_number}
use Rattle.mx_types.specs.declared.code.Code.TheVariants as codes
use Rattle.mx_types.specs.declared.method.Method.{Method}
use Rattle.mx_body.specs.declared.verdict.Verdict.{Verdict}
use Rattle.mx_body.specs.declared.verdict.Verdict.TheVariants as verdict
use Rattle.mx_body.specs.Decision.{IsVerdict}
use Rattle.mx_body.specs.Parts.{AreOrdered, joined}
use Rattle.mx_body.specs.Laws.{ContentIs}
use Rattle.mx_run_local.specs.Reading.{WasRead}
use Rattle.mx_run_local.specs.declared.reading.Received.{Received}
use Rattle.mx_run_io.specs.Faults.{fault_line, PrintsFault}
use Rattle.mx_run_local.specs.BodyTexts.{response_line}

-- the text of a verdict on that input: a line and the body, or the line of a fault
abbrev pub text_of : List ℕ → Verdict → List ℕ
text_of input (verdict.Complete status len parts keep) =
    response_line status (length (joined input parts.items)) keep (length input - len) ++ joined input parts.items
text_of input verdict.More = []
text_of input (verdict.Fault code) = fault_line (code_number code)

-- the exit status that goes with it
abbrev pub exit_status : Verdict → ℕ
exit_status (verdict.Complete status len parts keep) = 0
exit_status verdict.More = 0
exit_status (verdict.Fault code) = code_number code

-- What is written is the text of the verdict on the whole input, and the program ends with the verdict's exit status. The body that is
-- written is the content of the response.
pub record PrintsVerdict (m : Method) (input : List ℕ) (Written : List ℕ → Type 0) (ends_with : ℕ) : Type 0 where
  pub verdict : Verdict
  pub decided : IsVerdict m input true verdict
  pub content : ContentIs m input true verdict
  pub written : Written (text_of input verdict)
  pub status : ends_with ≡ exit_status verdict

-- the pieces of a verdict are in the input, and it is decided
abbrev pub FitsIn : List ℕ → Verdict → Type 0
FitsIn input (verdict.Complete status len parts keep) = AreOrdered 0 len parts.items × (len ≤ length input)
FitsIn input verdict.More = ⊥
FitsIn input (verdict.Fault code) = Unit {0}

-- Private: what is written is the text of the verdict on the bytes that were received and any others after them, as many as were read.
pub record PrintsReceived (r : Received) (Written : List ℕ → Type 0) (ends_with : ℕ) : Type 0 where
  pub written : (behind : List ℕ) → r.len ≡ length (r.decoder.wire ++ behind) → Written (text_of (r.decoder.wire ++ behind) r.decoder.verdict)
  pub status : ends_with ≡ exit_status r.decoder.verdict

-- The verdict on what was read is printed; or out of memory, which an input without bytes never meets.
abbrev pub AnswersRead : Method → Option (List ℕ) → Option (List ℕ) → (List ℕ → Type 0) → ℕ → Type 0
AnswersRead m known left Written ends_with =
    (PrintsFault (code_number codes.OutOfMemory) Written ends_with × (known ≢ Some []))
    ⊎ ((bytes : List ℕ) × WasRead known left bytes × PrintsVerdict m bytes Written ends_with)
