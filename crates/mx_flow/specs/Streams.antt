-- A response from its first byte on, of which the heads are kept and the content is handed on as it comes (RFC 9112, sections 6 to 8).
use Rattle.std.specs.Prelude.{◌≡◌, ℕ, ◌-◌, ◌^◌, ◌≤◌, ◌⊎◌, min, Bool, true, false, List, [], ◌++◌, length, take, Err, Option, Some, None}
use Rattle.httparse.specs.Grammar.{ResponseHead}
use Rattle.mx_types.specs.declared.code.Code.{Code}
use Rattle.mx_types.specs.declared.code.Code.TheVariants.{FilesizeExceeded, RecvError}
use Rattle.mx_types.specs.declared.method.Method.{Method}
use Rattle.mx_head.specs.declared.types.Framing.{Framing}
use Rattle.mx_head.specs.Framing.{framing_of, keeps_of}
use Rattle.mx_head.specs.Faults.{ComesFirst, MeetsNothing}
use Rattle.mx_body.specs.Response.{StandsAtBody}
use Rattle.mx_body.specs.Causes.{cause_code, cause_line, Meets}
use Rattle.mx_body.specs.Decision.{HasFinalHead, HasHeads, EndsTooSoon}
use Rattle.mx_flow.specs.Flows.{IsOpen, IsBad, IsTooLarge, content_so_far}
use Rattle.mx_flow.specs.Responses.{IsResponseOf, HasCome}
use Rattle.mx_flow.specs.declared.stream_state.StreamState.{StreamState}
use Rattle.mx_flow.specs.declared.stream_state.StreamState.TheVariants as stand

-- the most bytes of content of any response
abbrev pub most_content : ℕ
most_content = 2 ^ 63 - 1

-- rule body-stream-limit: A response whose content is handed on has content of at most so many bytes as its request says, and never more than
-- 9,223,372,036,854,775,807.
--
-- the limit where the request asks for this one
abbrev pub limit_of : Option ℕ → ℕ
limit_of None = most_content
limit_of (Some limit) = min limit most_content

-- no continuation of the bytes is a response
abbrev pub IsHopelessOf : ℕ → Method → List ℕ → Type 0
IsHopelessOf limit m bytes = (more content : List ℕ) (ended : Bool) → ¬ (IsResponseOf limit m (bytes ++ more) ended content)

-- nothing is decided: no prefix meets a cause of a fault, and no final head has come; or one that asks for a framing has, and the body is open
abbrev pub IsUndecidedOf : ℕ → Method → List ℕ → Type 0
IsUndecidedOf limit m bytes =
    (¬ (HasFinalHead bytes) × MeetsNothing (Meets m) bytes)
    ⊎ ((framing : Framing) × (came : List ℕ) × HasCome m bytes framing came × IsOpen limit framing came)

-- the bytes end with a final head whose framing is refused with that code
abbrev pub HasBadFraming : Method → List ℕ → Code → Type 0
HasBadFraming m bytes code = (hs : List ResponseHead) × (h : ResponseHead) × StandsAtBody bytes hs h [] × (framing_of m h ≡ Err code)

-- the last byte of a body is bad, or makes it too large
abbrev pub HasBadBody : ℕ → Method → List ℕ → Code → Type 0
HasBadBody limit m bytes code =
    (framing : Framing) × (came : List ℕ) × HasCome m bytes framing came
    × ((IsBad limit framing came × (code ≡ RecvError)) ⊎ (IsTooLarge limit framing came × (code ≡ FilesizeExceeded)))

-- rule body-stream-fault: A response whose content is handed on has in its heads the faults of one that is held, and of its framing, too. A byte of
-- a chunked body that isn't allowed at its place is 56, a body that is too large 63.
--
-- the fault of the bytes: the first of the heads, before a final head; else that of the final head's framing, or of the body
abbrev pub IsFaultOf : ℕ → Method → List ℕ → Code → Type 0
IsFaultOf limit m bytes code =
    (¬ (HasFinalHead bytes) × ComesFirst cause_code cause_line (Meets m) bytes code)
    ⊎ HasBadFraming m bytes code
    ⊎ HasBadBody limit m bytes code

-- the content among the bytes: none without a final head that asks for a framing
abbrev pub HasContent : ℕ → Method → List ℕ → List ℕ → Type 0
HasContent limit m bytes content =
    ((framing : Framing) × (came : List ℕ) × HasCome m bytes framing came × (content ≡ content_so_far limit framing came))
    ⊎ (((framing : Framing) (came : List ℕ) → ¬ (HasCome m bytes framing came)) × (content ≡ []))

-- what contracts see of a stream: the method of the request, the limit of the content, the bytes that came, the heads that are kept of them,
-- the content that was handed on, and the state of the bytes
pub record StreamValue : Type 0 where
  pub method : Method
  pub limit : ℕ
  pub wire : List ℕ
  pub heads : List ℕ
  pub content : List ℕ
  pub stand : StreamState

-- the state of the bytes
abbrev pub HasStand : StreamValue → StreamState → Type 0
HasStand s stand.More = IsUndecidedOf s.limit s.method s.wire
HasStand s stand.Whole = IsResponseOf s.limit s.method s.wire false s.content
HasStand s (stand.Fault code) = IsHopelessOf s.limit s.method s.wire × IsFaultOf s.limit s.method s.wire code

-- its heads, its content and its state are those of the bytes that came
pub record IsStream (s : StreamValue) : Type 0 where
  pub heads : HasHeads s.wire s.heads
  pub content : HasContent s.limit s.method s.wire s.content
  pub stand : HasStand s s.stand

-- before the first byte
abbrev pub first_stream : Method → ℕ → StreamValue
first_stream m limit = record { method = m; limit = limit; wire = []; heads = []; content = []; stand = stand.More }

-- the first n bytes of the piece have come, all of it where more is to come; and what the content has grown by was handed on
pub record IsTaken (old new : StreamValue) (n : ℕ) (piece before after : List ℕ) : Type 0 where
  pub within : n ≤ length piece
  pub wire : new.wire ≡ old.wire ++ take n piece
  pub method : new.method ≡ old.method
  pub limit : new.limit ≡ old.limit
  pub all : new.stand ≡ stand.More → n ≡ length piece
  pub added : List ℕ
  pub handed : after ≡ before ++ added
  pub grown : new.content ≡ old.content ++ added

-- what was handed on is a prefix of the content of each response that the bytes may still become
abbrev pub IsPrefixOfEach : StreamValue → Type 0
IsPrefixOfEach s =
    (more content : List ℕ) (ended : Bool) → IsResponseOf s.limit s.method (s.wire ++ more) ended content
    → (rest : List ℕ) × (content ≡ s.content ++ rest)

-- the bytes are no response, where the connection ends with them
abbrev pub IsNoneAtEnd : StreamValue → Type 0
IsNoneAtEnd s = (content : List ℕ) → ¬ (IsResponseOf s.limit s.method s.wire true content)

-- rule body-stream-end: Where the connection ends, a response whose content is handed on is whole, or ends with the fault of its bytes, or
-- ended too soon, with the code of one that is held.
--
-- the state of the bytes where the connection ends with them
abbrev pub HasEnd : StreamValue → StreamState → Type 0
HasEnd s stand.More = ⊥
HasEnd s stand.Whole = IsResponseOf s.limit s.method s.wire true s.content
HasEnd s (stand.Fault code) = IsNoneAtEnd s × ((s.stand ≡ stand.Fault code) ⊎ ((s.stand ≡ stand.More) × EndsTooSoon s.wire code))

-- whether the final head lets the connection serve another request; not without a final head
abbrev pub TellsKeeps : List ℕ → Bool → Type 0
TellsKeeps bytes keeps =
    ((hs : List ResponseHead) × (h : ResponseHead) × (r : List ℕ) × StandsAtBody bytes hs h r × (keeps ≡ keeps_of h))
    ⊎ (¬ (HasFinalHead bytes) × (keeps ≡ false))

-- the bytes alone decide: two streams of one method and limit to which the same bytes came have the same heads, content and state
abbrev pub HasOneStream : Type 0
HasOneStream =
    (m : Method) (limit : ℕ) (wire heads others content other : List ℕ) (s t : StreamState)
    → IsStream (record { method = m; limit = limit; wire = wire; heads = heads; content = content; stand = s })
    → IsStream (record { method = m; limit = limit; wire = wire; heads = others; content = other; stand = t })
    → (heads ≡ others) × (content ≡ other) × (s ≡ t)
