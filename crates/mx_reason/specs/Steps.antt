-- What the private functions promise one another.
use Rattle.std.specs.Prelude.{◌≡◌, ◌⊎◌, ℕ, ◌+◌, ◌<◌, ◌≤◌, false, List, ◌++◌, length, take, Result}
use Rattle.httparse.specs.Grammar.{ResponseHead, print_response}
use Rattle.mx_types.specs.declared.code.Code.{Code}
use Rattle.mx_types.specs.declared.code.Code.TheVariants.{RecvError, FilesizeExceeded}
use Rattle.mx_types.specs.declared.method.Method.{Method}
use Rattle.mx_head.specs.declared.types.Framing.{Framing}
use Rattle.mx_head.specs.Faults.{HeadCause, head_code, MeetsAtHead}
use Rattle.mx_head.specs.Heads.{HasNoHead}
use Rattle.mx_head.specs.Limits.{most_bytes}
use Rattle.mx_body.specs.declared.verdict.Verdict.TheVariants as verdict
use Rattle.mx_body.specs.Chunked.{MayBecomeChunked, EndsInLargeSize}
use Rattle.mx_body.specs.Causes.{BodyCause, body_code, MeetsAtBody, IsRefused}
use Rattle.mx_body.specs.Decision.{IsVerdict}
use Rattle.mx_body.specs.Response.{print_heads, StandsAtHead}
use Rattle.mx_body.specs.Steps.{IsBehind, HasHeadAt}
use Rattle.mx_reason.specs.declared.bracket.Bracket.{Bracket}
use Rattle.mx_reason.specs.declared.bracket.Standing.{Standing}
use Rattle.mx_reason.specs.declared.bracket.Standing.TheVariants as standing
use Rattle.mx_reason.specs.declared.walk.Step.{Step}
use Rattle.mx_reason.specs.declared.walk.Step.TheVariants as step
use Rattle.mx_reason.specs.declared.walk.Walked.{Walked}
use Rattle.mx_reason.specs.declared.walk.Walked.TheVariants as walked
use Rattle.mx_reason.specs.Reasons.{BeginsWithAny}

-- what the bytes decide
abbrev pub IsStanding : Method → List ℕ → Standing → Type 0
IsStanding m bytes standing.Open = IsVerdict m bytes false verdict.More
IsStanding m bytes (standing.Fault code) = IsVerdict m bytes false (verdict.Fault code)
IsStanding m bytes standing.Whole = BeginsWithAny m bytes

-- so many bytes of the wire decide nothing yet, and so many more are refused
pub record IsBracket (m : Method) (wire : List ℕ) (code : Code) (b : Bracket) : Type 0 where
  pub order : b.undecided < b.decided
  pub within : b.decided ≤ length wire
  pub before : IsVerdict m (take b.undecided wire) false verdict.More
  pub refused : IsVerdict m (take b.decided wire) false (verdict.Fault code)

-- bytes that begin with no head follow interim heads, from this offset on
pub record IsOpenAt (text : List ℕ) (start : ℕ) : Type 0 where
  pub interim : List ResponseHead
  pub rest : List ℕ
  pub stands : StandsAtHead text interim rest
  pub none : HasNoHead rest
  pub start_is : start ≡ length (print_heads interim)

-- a head that is refused by its status follows interim heads, and ends at this offset
pub record IsRefusedAt (text : List ℕ) (end : ℕ) : Type 0 where
  pub interim : List ResponseHead
  pub head : ResponseHead
  pub rest : List ℕ
  pub stands : StandsAtHead text interim (print_response head ++ rest)
  pub refused : IsRefused interim head
  pub end_is : end ≡ length (print_heads interim ++ print_response head)
  pub within : end ≤ length text

-- what follows the interim heads of a text
abbrev pub IsWalked : List ℕ → Walked → Type 0
IsWalked text (walked.Final x end) = HasHeadAt text x end
IsWalked text (walked.Refused end) = IsRefusedAt text end
IsWalked text (walked.Open start) = IsOpenAt text start

abbrev pub IsStepped : List ℕ → ℕ → Step → Type 0
IsStepped text passed (step.Passed end) = IsBehind text end (passed + 1)
IsStepped text passed (step.Stopped w) = IsWalked text w

-- the bytes after the interim heads are no head, and meet a cause of this code
pub record IsRefusedHead (r : List ℕ) (code : Code) : Type 0 where
  pub none : HasNoHead r
  pub cause : HeadCause
  pub meets : MeetsAtHead r cause
  pub code_is : head_code cause ≡ code

-- the bytes of a chunked body begin none, or have a size that is too large, which has this code
abbrev pub IsRefusedChunks : List ℕ → Code → Type 0
IsRefusedChunks r code = (¬ (MayBecomeChunked r) × (RecvError ≡ code)) ⊎ (EndsInLargeSize most_bytes r × (FilesizeExceeded ≡ code))

-- the bytes after a final head that asks for this framing and ends at the offset `at` meet a cause of this code
pub record IsRefusedBody (asked : Result Framing Code) (at : ℕ) (r : List ℕ) (code : Code) : Type 0 where
  pub cause : BodyCause
  pub meets : MeetsAtBody asked at r cause
  pub code_is : body_code cause ≡ code
