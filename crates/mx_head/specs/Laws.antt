-- Laws of the definitions. Each is the contract of a function of `laws`.
use Rattle.std.specs.Prelude.{◌≡◌, ◌≢◌, ℕ, ◌≤◌, List, [], ◌++◌, length, None, option_map}
use Rattle.httparse.specs.Grammar.{ResponseHead, print_response}
use Rattle.mx_types.specs.declared.code.Code.{Code}
use Rattle.mx_head.specs.declared.scan.HeadScan.{HeadScan}
use Rattle.mx_head.specs.declared.types.HeadStep.{HeadStep}
use Rattle.mx_head.specs.declared.types.HeadStep.TheVariants.{More}
use Rattle.mx_head.specs.declared.types.HeadStep.TheVariants as step
use Rattle.httparse.specs.Spans.{span_bytes}
use Rattle.mx_types.specs.declared.method.Method.{Method}
use Rattle.mx_head.specs.Heads.{IsHead, ReadsHead}
use Rattle.mx_head.specs.Framing.{framing_of, keeps_of}
use Rattle.mx_head.specs.Summary.{Summary, Describes, framing_by, keeps_by}
use Rattle.mx_head.specs.Faults.{MeetsAtHead, ComesFirst, MeetsNothing}
use Rattle.mx_head.specs.Reading.{IsStepOn}
use Rattle.mx_head.specs.Scan.{HasScanned}

-- causes of one line have one code
abbrev pub HasOneCodePerLine : {Cause : Type 0} → (Cause → Code) → (Cause → ℕ) → Type 0
HasOneCodePerLine code_of line_of = (a b : _) → line_of a ≡ line_of b → code_of a ≡ code_of b

-- p is the shortest prefix of the input that meets a cause, and of those that p meets this one has the
-- upper line
pub record IsShortest
    {Cause : Type 0} (line_of : Cause → ℕ) (Meets : List ℕ → Cause → Type 0)
    (input p : List ℕ) (cause : Cause) : Type 0 where
  pub after : List ℕ
  pub is_prefix : input ≡ p ++ after
  pub meets : Meets p cause
  pub shortest : (q more : List ℕ) (other : Cause) → input ≡ q ++ more → Meets q other
      → length p ≤ length q
  pub upper : (other : Cause) → Meets p other → line_of cause ≤ line_of other

-- the code of the shortest prefix's cause comes first
abbrev pub ShortestComesFirst
    : {Cause : Type 0} → (Cause → Code) → (Cause → ℕ) → (List ℕ → Cause → Type 0) → Type 0
ShortestComesFirst code_of line_of Meets =
    (input p : List ℕ) (cause : _) → IsShortest line_of Meets input p cause
    → ComesFirst code_of line_of Meets input (code_of cause)

-- a code that comes first is that of the shortest prefix's cause
abbrev pub FirstIsShortest
    : {Cause : Type 0} → (Cause → Code) → (Cause → ℕ) → (List ℕ → Cause → Type 0) → Type 0
FirstIsShortest code_of line_of Meets =
    (input p : List ℕ) (cause : _) (code : Code) → IsShortest line_of Meets input p cause
    → ComesFirst code_of line_of Meets input code → code ≡ code_of cause

-- where a code comes first, it can't be that there is no shortest prefix with a cause of that code
abbrev pub FirstHasShortest
    : {Cause : Type 0} → (Cause → Code) → (Cause → ℕ) → (List ℕ → Cause → Type 0) → Type 0
FirstHasShortest code_of line_of Meets =
    (input : List ℕ) (code : Code) → ComesFirst code_of line_of Meets input code
    → ¬ ((p : List ℕ) (cause : _) → ¬ (IsShortest line_of Meets input p cause × (code ≡ code_of cause)))

-- no two codes come first
abbrev pub HasOneFirst
    : {Cause : Type 0} → (Cause → Code) → (Cause → ℕ) → (List ℕ → Cause → Type 0) → Type 0
HasOneFirst code_of line_of Meets =
    (input : List ℕ) (code other : Code) → ComesFirst code_of line_of Meets input code
    → ComesFirst code_of line_of Meets input other → code ≡ other

-- two answers that say the same; of the places of a location no more is said than that the same bytes are there
abbrev pub IsSameStep : List ℕ → HeadStep → HeadStep → Type 0
IsSameStep input (step.Head x) (step.Head y) =
    (record x { location = None } ≡ record y { location = None })
    × (option_map (span_bytes input) x.location ≡ option_map (span_bytes input) y.location)
IsSameStep input step.More step.More = Unit {0}
IsSameStep input (step.Fault code) (step.Fault other) = code ≡ other
IsSameStep input _ _ = ⊥

-- an input has one answer of `read_head`
abbrev pub HasOneStep : Type 0
HasOneStep =
    (input : List ℕ) (a b : HeadStep) → IsStepOn input a → IsStepOn input b → IsSameStep input a b

-- no head is a proper prefix of another: they are the same head
abbrev pub HeadsArePrefixFree : Type 0
HeadsArePrefixFree =
    (h k : ResponseHead) (rest : List ℕ) → IsHead h → IsHead k
    → print_response k ≡ print_response h ++ rest → (h ≡ k) × (rest ≡ [])

-- a head is one reading of an input
abbrev pub HasOneHead : Type 0
HasOneHead =
    (input : List ℕ) (h k : ResponseHead) (rest left : List ℕ) → ReadsHead input h rest
    → ReadsHead input k left → (h ≡ k) × (rest ≡ left)

-- where the input begins with a head, no prefix meets a cause
abbrev pub HeadMeetsNothing : Type 0
HeadMeetsNothing =
    (input : List ℕ) (h : ResponseHead) (rest : List ℕ) → ReadsHead input h rest
    → MeetsNothing MeetsAtHead input

-- what is kept of a head decides the framing and the keeping as the head does
abbrev pub SummaryDecides : Type 0
SummaryDecides =
    (m : Method) (x : Summary) (h : ResponseHead) → Describes x h
    → (framing_by m x ≡ framing_of m h) × (keeps_by x ≡ keeps_of h)

-- a head and a fault stay the same whatever follows
abbrev pub StepStaysSame : Type 0
StepStaysSame =
    (input more : List ℕ) (s : HeadStep) → s ≢ More → IsStepOn input s → IsStepOn (input ++ more) s

-- a scan of an input is one of whatever begins with it
abbrev pub ScanStaysTrue : Type 0
ScanStaysTrue =
    (input more : List ℕ) (scan : HeadScan) → HasScanned input scan → HasScanned (input ++ more) scan
