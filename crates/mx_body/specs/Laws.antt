-- Laws of the definitions. Each is the contract of a function of `laws`.
use Rattle.std.specs.Prelude.{◌≡◌, ◌≢◌, ℕ, ◌≤◌, Bool, false, List, [], ◌++◌, length, take, Option}
use Rattle.mx_types.specs.declared.code.Code.{Code}
use Rattle.mx_types.specs.declared.method.Method.{Method}
use Rattle.mx_head.specs.declared.types.Framing.TheVariants.{Close}
use Rattle.mx_head.specs.Faults.{MeetsNothing}
use Rattle.mx_body.specs.declared.verdict.Verdict.{Verdict}
use Rattle.mx_body.specs.declared.verdict.Verdict.TheVariants.{Complete, More, Fault}
use Rattle.mx_body.specs.Parts.{AreOrdered, joined}
use Rattle.mx_body.specs.Response.{Response, IsResponse}
use Rattle.mx_body.specs.Causes.{Meets}
use Rattle.mx_body.specs.Decision.{BeginsWithResponse, IsVerdict, IsHopeless, HasStatus, TellsLocation}

-- two verdicts that say the same
abbrev pub IsSameVerdict : Verdict → Verdict → Type 0
IsSameVerdict (Complete status len parts keep) (Complete status' len' parts' keep') =
    (status ≡ status') × (len ≡ len') × (parts.items ≡ parts'.items) × (keep ≡ keep')
IsSameVerdict More More = Unit {0}
IsSameVerdict (Fault code) (Fault code') = code ≡ code'
IsSameVerdict _ _ = ⊥

-- an input has one verdict
abbrev pub HasOneVerdict : Type 0
HasOneVerdict =
    (m : Method) (input : List ℕ) (ended : Bool) (v w : Verdict)
    → IsVerdict m input ended v → IsVerdict m input ended w → IsSameVerdict v w

-- an input begins with one response at most
abbrev pub HasOneResponse : Type 0
HasOneResponse =
    (m : Method) (input : List ℕ) (ended : Bool) (r s : Response) (left after : List ℕ)
    → BeginsWithResponse m input ended r left → BeginsWithResponse m input ended s after
    → (r ≡ s) × (left ≡ after)

-- an input has one status
abbrev pub HasOneStatus : Type 0
HasOneStatus = (input : List ℕ) (a b : ℕ) → HasStatus input a → HasStatus input b → a ≡ b

-- an input has one location at most, whichever place that is read from
abbrev pub HasOneLocation : Type 0
HasOneLocation = (input : List ℕ) (a b : Option (List ℕ)) → TellsLocation input a → TellsLocation input b → a ≡ b

-- the verdict's status is that of the input, where it has one
abbrev pub StatusIs : List ℕ → Verdict → Type 0
StatusIs input (Complete status len parts keep) = HasStatus input status
StatusIs input More = Unit {0}
StatusIs input (Fault code) = Unit {0}

-- a complete response has the status that the verdict gives
abbrev pub CompleteHasStatus : Type 0
CompleteHasStatus =
    (m : Method) (input : List ℕ) (ended : Bool) (v : Verdict) → IsVerdict m input ended v
    → StatusIs input v

-- the fault of an input that hasn't ended is that of every continuation
abbrev pub FaultStaysSame : Type 0
FaultStaysSame =
    (m : Method) (input more : List ℕ) (ended : Bool) (code : Code)
    → IsVerdict m input false (Fault code) → IsVerdict m (input ++ more) ended (Fault code)

-- a fault of an input that hasn't ended comes only where no continuation begins with a response
abbrev pub FaultIsHopeless : Type 0
FaultIsHopeless =
    (m : Method) (input : List ℕ) (code : Code) → IsVerdict m input false (Fault code) → IsHopeless m input

-- a verdict of this kind
abbrev pub IsComplete : Verdict → Type 0
IsComplete (Complete status len parts keep) = Unit {0}
IsComplete More = ⊥
IsComplete (Fault code) = ⊥

-- the very same complete response is at the front of every continuation
abbrev pub CompleteStaysSame : Type 0
CompleteStaysSame =
    (m : Method) (input more : List ℕ) (ended : Bool) (v : Verdict) → IsComplete v
    → IsVerdict m input false v → IsVerdict m (input ++ more) ended v

-- a response whose end the input doesn't decide is that of every continuation, whether they have ended or not
abbrev pub ResponseStaysSame : Type 0
ResponseStaysSame =
    (m : Method) (input more left : List ℕ) (ended later : Bool) (r : Response) → r.framing ≢ Close
    → BeginsWithResponse m input ended r left → BeginsWithResponse m (input ++ more) later r (left ++ more)

-- a response whose framing isn't Close is no proper prefix of another
abbrev pub ResponsesArePrefixFree : Type 0
ResponsesArePrefixFree =
    (m : Method) (bytes rest : List ℕ) (ended later : Bool) (r s : Response) → r.framing ≢ Close
    → IsResponse m bytes ended r → IsResponse m (bytes ++ rest) later s → (r ≡ s) × (rest ≡ [])

-- No prefix of a response meets a cause. So what decides first is found whether the response or the causes
-- are tried first.
abbrev pub ResponseMeetsNothing : Type 0
ResponseMeetsNothing =
    (m : Method) (bytes : List ℕ) (ended : Bool) (r : Response)
    → IsResponse m bytes ended r → MeetsNothing (Meets m) bytes

-- The first `len` bytes of the input are a response. Its parts are not empty and are in order within them; the bytes at the parts, joined,
-- are its content.
abbrev pub ContentIs : Method → List ℕ → Bool → Verdict → Type 0
ContentIs m input ended (Complete status len parts keep) =
    AreOrdered 0 len parts.items × (len ≤ length input)
    × ((r : Response) × IsResponse m (take len input) ended r × (r.parts ≡ parts.items)
    × (joined input parts.items ≡ r.content))
ContentIs m input ended More = Unit {0}
ContentIs m input ended (Fault code) = Unit {0}

abbrev pub CompleteHasContent : Type 0
CompleteHasContent =
    (m : Method) (input : List ℕ) (ended : Bool) (v : Verdict) → IsVerdict m input ended v
    → ContentIs m input ended v
