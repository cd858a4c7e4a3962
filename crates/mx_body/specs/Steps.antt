-- What the private functions of `decode_whole` promise one another.
use Rattle.std.specs.Prelude.{◌≡◌, ℕ, ◌+◌, ◌≤◌, Bool, List, ◌++◌, length}
use Rattle.httparse.specs.Grammar.{ResponseHead, print_response}
use Rattle.mx_types.specs.declared.method.Method.{Method}
use Rattle.mx_head.specs.Summary.{Summary, Describes}
use Rattle.mx_head.specs.Limits.{most_bytes}
use Rattle.mx_head.specs.Scan.{HasScanned}
use Rattle.mx_head.specs.Faults.{ComesFirst, MeetsNothing}
use Rattle.mx_body.specs.declared.verdict.Verdict.{Verdict}
use Rattle.mx_body.specs.declared.verdict.Verdict.TheVariants as verdict
use Rattle.mx_body.specs.declared.heads.FinalStep.{FinalStep}
use Rattle.mx_body.specs.declared.heads.FinalStep.TheVariants as final
use Rattle.mx_body.specs.declared.heads.Next.{Next}
use Rattle.mx_body.specs.declared.heads.Passed.{Passed}
use Rattle.mx_body.specs.declared.heads.Next.TheVariants as next
use Rattle.mx_body.specs.Response.{print_heads, StandsAtHead, StandsAtBody, one_part}
use Rattle.mx_body.specs.Causes.{cause_code, cause_line, Meets}
use Rattle.mx_body.specs.Decision.{HasFinalHead, IsUndecided}

-- after as many interim heads as have passed, the next head begins at `start`
pub record IsBehind (text : List ℕ) (start passed : ℕ) : Type 0 where
  pub interim : List ResponseHead
  pub rest : List ℕ
  pub stands : StandsAtHead text interim rest
  pub start_is : start ≡ length (print_heads interim)
  pub passed_is : passed ≡ length interim

-- the same, and the bytes of the next head were scanned so far
pub record HavePassed (text : List ℕ) (p : Passed) : Type 0 where
  pub behind : IsBehind text p.start p.count
  pub scanned : HasScanned behind.rest p.scan

-- the final head is the one that x describes, and it ends at `end`
pub record HasHeadAt (text : List ℕ) (x : Summary) (end : ℕ) : Type 0 where
  pub interim : List ResponseHead
  pub head : ResponseHead
  pub rest : List ℕ
  pub stands : StandsAtBody text interim head rest
  pub describes : Describes x head
  pub end_is : end ≡ length (print_heads interim ++ print_response head)
  pub within : end ≤ length text
  pub small : end ≤ most_bytes

abbrev pub IsFinalStepOn : List ℕ → FinalStep → Type 0
IsFinalStepOn text (final.Head x end) = HasHeadAt text x end
IsFinalStepOn text final.More = ¬ (HasFinalHead text) × ((m : Method) → MeetsNothing (Meets m) text)
IsFinalStepOn text (final.Fault code) =
    ¬ (HasFinalHead text) × ((m : Method) → ComesFirst cause_code cause_line (Meets m) text code)

abbrev pub IsNextOn : List ℕ → ℕ → Next → Type 0
IsNextOn text passed (next.Passed end) = IsBehind text end (passed + 1)
IsNextOn text passed (next.Decided step) = IsFinalStepOn text step

-- the verdict of a whole response whose body is the n bytes from `at` on
abbrev pub IsWholeAt : ℕ → ℕ → ℕ → Bool → Verdict → Type 0
IsWholeAt status at n keep (verdict.Complete s len parts k) =
    (s ≡ status) × (len ≡ at + n) × (parts.items ≡ one_part at n) × (k ≡ keep)
IsWholeAt status at n keep verdict.More = ⊥
IsWholeAt status at n keep (verdict.Fault code) = ⊥

-- a body of which more is to come, after the final head
abbrev pub IsShortBody : Method → List ℕ → Bool → Type 0
IsShortBody m input ended = IsUndecided m input ended × HasFinalHead input
