-- A body as its bytes come, of which none is kept (RFC 9112, sections 6.3 and 7.1).
use Rattle.std.specs.Prelude.{◌≡◌, ℕ, ◌<◌, ◌≤◌, ◌⊎◌, Bool, true, false, List, [], ◌∷◌, ◌++◌, length, take}
use Rattle.mx_head.specs.declared.types.Framing.{Framing}
use Rattle.mx_head.specs.declared.types.Framing.TheVariants.{Empty, Counted, Chunked, Close}
use Rattle.mx_body.specs.declared.part.Part.{Part}
use Rattle.mx_body.specs.declared.chunked.place.ChunkedPlace.TheVariants.{Start}
use Rattle.mx_body.specs.Chunked.{IsChunked, MayBecomeChunked, EndsInLargeSize}
use Rattle.mx_body.specs.ChunkedPlace.{place_after, is_settled}
use Rattle.mx_flow.specs.Data.{data_from}
use Rattle.mx_flow.specs.declared.flow.BodyState.{BodyState}
use Rattle.mx_flow.specs.declared.flow.BodyState.TheVariants as state

-- the bytes are a whole body of that framing with this content; `ended` says that the connection ends with them
abbrev pub IsFramed : ℕ → Framing → Bool → List ℕ → List ℕ → Type 0
IsFramed limit Empty ended body content = (body ≡ []) × (content ≡ [])
IsFramed limit (Counted n) ended body content = (length body ≡ n) × (content ≡ body)
IsFramed limit Chunked ended body content = (parts : List Part) × IsChunked limit 0 body parts content
IsFramed limit Close ended body content = (ended ≡ true) × (content ≡ body)

-- rule body-stream-size: A body whose content is handed on has content of at most so many bytes as its limit says: 63.
--
-- the same, with content of at most so many bytes
abbrev pub IsBodyOf : ℕ → Framing → Bool → List ℕ → List ℕ → Type 0
IsBodyOf limit framing ended body content = IsFramed limit framing ended body content × (length content ≤ limit)

-- the content among the bytes of a body that have come, whatever its length
abbrev pub data_so_far : ℕ → Framing → List ℕ → List ℕ
data_so_far limit Empty came = []
data_so_far limit (Counted n) came = came
data_so_far limit Chunked came = data_from limit Start came
data_so_far limit Close came = came

-- the same, as far as the limit allows
abbrev pub content_so_far : ℕ → Framing → List ℕ → List ℕ
content_so_far limit framing came = take limit (data_so_far limit framing came)

-- a body: its framing, the limit of its content, the bytes that came, and their state
pub record FlowValue : Type 0 where
  pub framing : Framing
  pub limit : ℕ
  pub came : List ℕ
  pub state : BodyState

abbrev pub content_of : FlowValue → List ℕ
content_of f = content_so_far f.limit f.framing f.came

-- the bytes are no whole body yet, and nothing is wrong with them
abbrev pub IsOpen : ℕ → Framing → List ℕ → Type 0
IsOpen limit Empty came = ⊥
IsOpen limit (Counted n) came = (length came < n) × (n ≤ limit)
IsOpen limit Chunked came = (is_settled (place_after limit Start came) ≡ false) × (length (data_from limit Start came) ≤ limit)
IsOpen limit Close came = length came ≤ limit

-- no body begins with the bytes
abbrev pub IsNone : ℕ → Framing → List ℕ → Type 0
IsNone limit framing came = (more content : List ℕ) (ended : Bool) → ¬ (IsBodyOf limit framing ended (came ++ more) content)

-- nothing was wrong before the last byte
abbrev pub IsOpenBefore : ℕ → Framing → List ℕ → Type 0
IsOpenBefore limit framing came = (front : List ℕ) × (last : ℕ) × (came ≡ front ++ last ∷ []) × IsOpen limit framing front

-- rule body-stream-too-large: A body is too large at its head, where Content-Length is over the limit; at the digit with which a chunk's size is; or
-- at the first byte of its content that is one too many.
abbrev pub IsTooLarge : ℕ → Framing → List ℕ → Type 0
IsTooLarge limit Empty came = ⊥
IsTooLarge limit (Counted n) came = (came ≡ []) × (limit < n)
IsTooLarge limit Chunked came =
    IsOpenBefore limit Chunked came × (EndsInLargeSize limit came ⊎ (limit < length (data_from limit Start came)))
IsTooLarge limit Close came = IsOpenBefore limit Close came × (limit < length came)

-- the last byte isn't allowed at its place in a chunked body
abbrev pub IsBad : ℕ → Framing → List ℕ → Type 0
IsBad limit framing came = IsOpenBefore limit framing came × (framing ≡ Chunked) × ¬ (MayBecomeChunked came)

-- rule body-stream-in-pieces: The state of a body or a response whose content is handed on is that of all its bytes, however they were cut into
-- pieces. What was handed on is a prefix of the content of each that the bytes may still become, and all of it once they are whole.
--
-- the state of the bytes
abbrev pub HasState : ℕ → Framing → List ℕ → BodyState → Type 0
HasState limit framing came state.More = IsOpen limit framing came
HasState limit framing came state.Whole = IsBodyOf limit framing false came (content_so_far limit framing came)
HasState limit framing came state.Bad = IsNone limit framing came × IsBad limit framing came
HasState limit framing came state.TooLarge = IsNone limit framing came × IsTooLarge limit framing came

abbrev pub IsFlow : FlowValue → Type 0
IsFlow f = HasState f.limit f.framing f.came f.state

-- the first n bytes of the piece have come, all of it where more is to come; and what the content has grown by was handed on
pub record IsFed (old new : FlowValue) (n : ℕ) (piece before after : List ℕ) : Type 0 where
  pub within : n ≤ length piece
  pub came : new ≡ record old { came = old.came ++ take n piece; state = new.state }
  pub all : new.state ≡ state.More → n ≡ length piece
  pub added : List ℕ
  pub handed : after ≡ before ++ added
  pub grown : content_of new ≡ content_of old ++ added
