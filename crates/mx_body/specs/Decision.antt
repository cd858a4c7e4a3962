-- What the bytes of an exchange decide (RFC 9112, sections 6 to 8).
use Rattle.std.specs.Prelude.{◌≡◌, ◌≢◌, ℕ, ◌+◌, ◌<◌, ◌≤◌, ◌⊎◌, Bool, true, false, not, ◌&&◌, List, [], ◌++◌, length, take, slice_range, Option, Some, None, option_map, IfSome}
use Rattle.httparse.specs.Grammar.{ResponseHead, print_response, status_code}
use Rattle.mx_types.specs.declared.code.Code.{Code}
use Rattle.mx_types.specs.declared.code.Code.TheVariants.{WeirdServerReply, FilesizeExceeded, GotNothing, PartialFile}
use Rattle.mx_types.specs.declared.method.Method.{Method}
use Rattle.mx_head.specs.declared.types.Framing.{Framing}
use Rattle.mx_head.specs.declared.types.Framing.TheVariants.{Empty, Counted, Chunked, Close}
use Rattle.mx_head.specs.Fields.{location_of}
use Rattle.mx_head.specs.Framing.{keeps_of}
use Rattle.mx_head.specs.Limits.{most_bytes}
use Rattle.mx_head.specs.Faults.{ComesFirst, MeetsNothing}
use Rattle.mx_body.specs.declared.verdict.Verdict.{Verdict}
use Rattle.mx_body.specs.declared.verdict.Verdict.TheVariants as verdict
use Rattle.mx_body.specs.declared.part.Part.{Part}
use Rattle.mx_body.specs.Response.{print_heads, StandsAtBody, Response, IsResponse}
use Rattle.mx_body.specs.Causes.{cause_code, cause_line, Meets}

-- the input is the response r and then left, which is nothing where only the end ends the response
pub record BeginsWithResponse
    (m : Method) (input : List ℕ) (ended : Bool) (r : Response) (left : List ℕ) : Type 0 where
  pub bytes : List ℕ
  pub whole : input ≡ bytes ++ left
  pub response : IsResponse m bytes ended r
  pub ends : r.framing ≡ Close → left ≡ []

-- the input doesn't begin with a response, nor is it one
abbrev pub IsNoResponse : Method → List ℕ → Bool → Type 0
IsNoResponse m input ended = (r : Response) (left : List ℕ) → ¬ (BeginsWithResponse m input ended r left)

-- the bytes that are looked at: as many as a response may have
unfoldable pub first_bytes : List ℕ → List ℕ
first_bytes input = take most_bytes input

-- neither a response nor a fault: the bytes that are looked at end first
pub record IsUndecided (m : Method) (input : List ℕ) (ended : Bool) : Type 0 where
  pub unfinished : IsNoResponse m input ended
  pub faultless : MeetsNothing (Meets m) (first_bytes input)

-- the input has a final head
abbrev pub HasFinalHead : List ℕ → Type 0
HasFinalHead input =
    (hs : List ResponseHead) × (h : ResponseHead) × (r : List ℕ) × StandsAtBody input hs h r

-- the heads of the input: its interim heads and its final head; nothing where it has no final head
abbrev pub HasHeads : List ℕ → List ℕ → Type 0
HasHeads input heads =
    ((hs : List ResponseHead) × (h : ResponseHead) × (r : List ℕ)
    × StandsAtBody input hs h r × (heads ≡ print_heads hs ++ print_response h))
    ⊎ (¬ (HasFinalHead input) × (heads ≡ []))

-- rule body-truncated: An input that ends within the body is 18, within a head 8, before its first byte 52.
abbrev pub EndsTooSoon : List ℕ → Code → Type 0
EndsTooSoon input code =
    ((input ≡ []) × (code ≡ GotNothing))
    ⊎ ((input ≢ []) × ¬ (HasFinalHead input) × (code ≡ WeirdServerReply))
    ⊎ (HasFinalHead input × (code ≡ PartialFile))

-- the fault of an input that begins with no response: the first one in the bytes that are looked at,
-- else that there are too many bytes, else that it ended too soon
abbrev pub FailsWith : Method → List ℕ → Bool → Code → Type 0
FailsWith m input ended code =
    ComesFirst cause_code cause_line (Meets m) (first_bytes input) code
    ⊎ (IsUndecided m input ended × (most_bytes < length input) × (code ≡ FilesizeExceeded))
    ⊎ (IsUndecided m input ended × (length input ≤ most_bytes) × (ended ≡ true) × EndsTooSoon input code)

-- rule body-to-the-end: A body with no length and no chunks goes to the end of the input; its connection isn't kept.
abbrev pub is_close : Framing → Bool
is_close Empty = false
is_close (Counted n) = false
is_close Chunked = false
is_close Close = true

-- the verdict on the bytes of an exchange, and whether they have ended
abbrev pub IsVerdict : Method → List ℕ → Bool → Verdict → Type 0
IsVerdict m input ended (verdict.Complete status len parts keep) =
    (r : Response) × (left : List ℕ) × BeginsWithResponse m input ended r left
    × (status ≡ status_code r.head) × (len + length left ≡ length input) × (parts.items ≡ r.parts)
    × (keep ≡ (keeps_of r.head && not (is_close r.framing)))
IsVerdict m input ended verdict.More =
    IsUndecided m input ended × (length input ≤ most_bytes) × (ended ≡ false)
IsVerdict m input ended (verdict.Fault code) = IsNoResponse m input ended × FailsWith m input ended code

-- no continuation of the input begins with a response, nor is it one once it has ended
abbrev pub IsHopeless : Method → List ℕ → Type 0
IsHopeless m input = (more : List ℕ) → IsNoResponse m (input ++ more) true

-- the status of the final head, 0 where the input has none
abbrev pub HasStatus : List ℕ → ℕ → Type 0
HasStatus input status =
    ((hs : List ResponseHead) × (h : ResponseHead) × (r : List ℕ)
    × StandsAtBody input hs h r × (status ≡ status_code h))
    ⊎ (¬ (HasFinalHead input) × (status ≡ 0))

-- the part is in the text between two offsets, and its bytes are the value; there is one exactly where there is a value
abbrev pub IsPartAt : List ℕ → ℕ → ℕ → Option Part → Option (List ℕ) → Type 0
IsPartAt text from to None None = Unit {0}
IsPartAt text from to (Some p) (Some value) =
    (from ≤ p.start) × (p.start ≤ p.end) × (p.end ≤ to) × (slice_range text p.start p.end ≡ value)
IsPartAt text from to _ _ = ⊥

-- where in the final head the value of its first Location line is; nowhere where that is empty, or the input has no final head
abbrev pub HasLocation : List ℕ → Option Part → Type 0
HasLocation input place =
    ((hs : List ResponseHead) × (h : ResponseHead) × (r : List ℕ) × StandsAtBody input hs h r
    × IsPartAt input (length (print_heads hs)) (length (print_heads hs ++ print_response h)) place (location_of h))
    ⊎ (¬ (HasFinalHead input) × (place ≡ None))

-- rule redirect-interim-location: A Location of an interim head is ignored.
--
-- the value of the first Location line of the final head, unless it is empty; none where the input has no final head
abbrev pub TellsLocation : List ℕ → Option (List ℕ) → Type 0
TellsLocation input value =
    ((hs : List ResponseHead) × (h : ResponseHead) × (r : List ℕ)
    × StandsAtBody input hs h r × (value ≡ location_of h))
    ⊎ (¬ (HasFinalHead input) × (value ≡ None))

-- the bytes of a text at a place
abbrev pub bytes_at : List ℕ → Option Part → Option (List ℕ)
bytes_at text place = option_map (λ p. slice_range text p.start p.end) place

-- the place, if there is one, is in a text of so many bytes
abbrev pub IsPlaceIn : ℕ → Option Part → Type 0
IsPlaceIn len place = IfSome place (λ p. (p.start ≤ p.end) × (p.end ≤ len))

-- the input begins with a response whose body isn't empty
abbrev pub BeginsWithParts : Method → List ℕ → Bool → Type 0
BeginsWithParts m input ended =
    (r : Response) × (left : List ℕ) × BeginsWithResponse m input ended r left × (r.parts ≢ [])
