-- The causes of a fault in the bytes of an exchange: what a prefix p of them meets.
use Rattle.std.specs.Prelude.{◌≡◌, ℕ, ◌+◌, ◌<◌, ◌⊎◌, List, [], ◌++◌, length, Result, Ok, Err}
use Rattle.httparse.specs.Grammar.{ResponseHead, print_response, status_code}
use Rattle.mx_types.specs.declared.code.Code.{Code}
use Rattle.mx_types.specs.declared.code.Code.TheVariants.{WeirdServerReply, BadContentEncoding, FilesizeExceeded, RecvError}
use Rattle.mx_types.specs.declared.method.Method.{Method}
use Rattle.mx_head.specs.declared.types.Framing.{Framing}
use Rattle.mx_head.specs.declared.types.Framing.TheVariants.{Counted, Chunked}
use Rattle.mx_head.specs.Framing.{framing_of}
use Rattle.mx_head.specs.Heads.{IsHead}
use Rattle.mx_head.specs.Limits.{most_bytes, most_interim}
use Rattle.mx_head.specs.Faults.{HeadCause, head_code, head_line, MeetsAtHead}
use Rattle.mx_body.specs.Chunked.{MayBecomeChunked, EndsInLargeSize}
use Rattle.mx_body.specs.Response.{IsInterimStatus, print_heads, StandsAtHead, StandsAtBody}

-- the causes after the final head
pub data BodyCause : Type 0 where
  bad_framing unknown_coding too_big bad_chunk : BodyCause

-- all causes: in the bytes of a head, by the status of a head, and after the final head
pub data Cause : Type 0 where
  at_head : (cause : HeadCause) → Cause
  refused_status : Cause
  at_body : (cause : BodyCause) → Cause

abbrev pub body_code : BodyCause → Code
body_code bad_framing = WeirdServerReply
body_code unknown_coding = BadContentEncoding
body_code too_big = FilesizeExceeded
body_code bad_chunk = RecvError

-- the code of a cause
abbrev pub cause_code : Cause → Code
cause_code (at_head cause) = head_code cause
cause_code refused_status = WeirdServerReply
cause_code (at_body cause) = body_code cause

abbrev pub body_line : BodyCause → ℕ
body_line bad_framing = 2
body_line unknown_coding = 3
body_line too_big = 5
body_line bad_chunk = 6

-- its line in the table of all causes: where a prefix meets two, the upper line's decides
abbrev pub cause_line : Cause → ℕ
cause_line (at_head cause) = head_line cause
cause_line refused_status = 2
cause_line (at_body cause) = body_line cause

-- rule body-interim-heads: At most 16 interim heads come before the final one. The 17th is 8, and so is status 101 anywhere.
--
-- after the interim heads hs the head h is refused: one of status 101, or one interim head too many
pub record IsRefused (hs : List ResponseHead) (h : ResponseHead) : Type 0 where
  pub head : IsHead h
  pub refused : (status_code h ≡ 101) ⊎ ((length hs ≡ most_interim) × IsInterimStatus (status_code h))

-- What is met by the bytes r after a final head that asks for this framing, and ends at the offset
-- `at`: its framing is refused; it counts more bytes than a response may have, or a chunk's size does;
-- no chunked body begins with r.
abbrev pub MeetsAtBody : Result Framing Code → ℕ → List ℕ → BodyCause → Type 0
MeetsAtBody asked at r bad_framing = (r ≡ []) × (asked ≡ Err WeirdServerReply)
MeetsAtBody asked at r unknown_coding = (r ≡ []) × (asked ≡ Err BadContentEncoding)
MeetsAtBody asked at r too_big =
    ((r ≡ []) × ((n : ℕ) × (asked ≡ Ok (Counted n)) × (most_bytes < at + n)))
    ⊎ ((asked ≡ Ok Chunked) × EndsInLargeSize most_bytes r)
MeetsAtBody asked at r bad_chunk = (asked ≡ Ok Chunked) × ¬ (MayBecomeChunked r)

-- p meets the cause: it is interim heads and then the bytes of the next head; or a refused head; or the
-- final head, and then bytes of its body
abbrev pub Meets : Method → List ℕ → Cause → Type 0
Meets m p (at_head cause) =
    (hs : List ResponseHead) × (r : List ℕ) × StandsAtHead p hs r × MeetsAtHead r cause
Meets m p refused_status =
    (hs : List ResponseHead) × (h : ResponseHead) × StandsAtHead p hs (print_response h) × IsRefused hs h
Meets m p (at_body cause) =
    (hs : List ResponseHead) × (h : ResponseHead) × (r : List ℕ) × StandsAtBody p hs h r
    × MeetsAtBody (framing_of m h) (length (print_heads hs ++ print_response h)) r cause
