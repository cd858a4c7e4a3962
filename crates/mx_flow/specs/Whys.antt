-- Why the bytes of a response whose content is handed on are no whole response (RFC 9112, sections 6 to 8).
use Rattle.std.specs.Prelude.{◌≡◌, ◌⊎◌, ℕ, ◌≤◌, List, [], ◌∷◌, ◌++◌, length}
use Rattle.mx_types.specs.declared.code.Code.TheVariants as code
use Rattle.mx_types.specs.declared.method.Method.{Method}
use Rattle.mx_head.specs.declared.types.Framing.{Framing}
use Rattle.mx_head.specs.declared.types.Framing.TheVariants.{Empty, Counted, Chunked, Close}
use Rattle.mx_body.specs.declared.chunked.place.ChunkedPlace.TheVariants.{Start}
use Rattle.mx_body.specs.ChunkedPlace.{place_after}
use Rattle.mx_reason.specs.declared.reason.Cut.{Cut}
use Rattle.mx_reason.specs.declared.reason.Cut.TheVariants as cut
use Rattle.mx_reason.specs.declared.reason.Defect.{Defect}
use Rattle.mx_reason.specs.declared.reason.Defect.TheVariants as what
use Rattle.mx_reason.specs.declared.reason.Fault.{Fault}
use Rattle.mx_reason.specs.declared.reason.Reason.{Reason}
use Rattle.mx_reason.specs.Cuts.{IsCutIn}
use Rattle.mx_reason.specs.Faults.{chunk_fault}
use Rattle.mx_reason.specs.Reasons.{BeginsWithAny, IsReason}
use Rattle.mx_flow.specs.Flows.{FlowValue, IsBad}
use Rattle.mx_flow.specs.Responses.{HasCome}
use Rattle.mx_flow.specs.Steps.{most_counted}
use Rattle.mx_flow.specs.Streams.{StreamValue, IsUndecidedOf}
use Rattle.mx_flow.specs.declared.flow.BodyState.TheVariants as state
use Rattle.mx_flow.specs.declared.stream_state.StreamState.{StreamState}
use Rattle.mx_flow.specs.declared.stream_state.StreamState.TheVariants as stand

-- the last of the bytes of a chunked body belongs to this part of one
pub record BreaksIn (limit : ℕ) (came : List ℕ) (fault : Fault) : Type 0 where
  pub front : List ℕ
  pub last : ℕ
  pub split : came ≡ front ++ last ∷ []
  pub part : chunk_fault (place_after limit Start front) ≡ fault

-- Private: so many bytes of a body of that framing came, and more are to come
abbrev pub EndsIn : Framing → ℕ → Cut → Type 0
EndsIn Empty came told = ⊥
EndsIn (Counted n) came told = told ≡ cut.Counted came n
EndsIn Chunked came told = told ≡ cut.Chunked
EndsIn Close came told = told ≡ cut.Close

-- Private: what is wrong with the last byte of a body, or where the bytes end that decide nothing
abbrev pub HasDefect : FlowValue → Defect → Type 0
HasDefect f (what.Fault fault) = (f.state ≡ state.Bad) × BreaksIn f.limit f.came fault
HasDefect f (what.Cut told) = (f.state ≡ state.More) × EndsIn f.framing (length f.came) told

-- the bytes end in the heads, or their final head is refused: the reason is that of a response that is held
pub record IsOfHeads (m : Method) (wire : List ℕ) (reason : Reason) : Type 0 where
  pub bodiless : (framing : Framing) (came : List ℕ) → ¬ (HasCome m wire framing came)
  pub tells : IsReason m wire reason

-- the last byte isn't allowed at its place in a chunked body, which is told
pub record BreaksChunks (limit : ℕ) (m : Method) (wire : List ℕ) (reason : Reason) : Type 0 where
  pub came : List ℕ
  pub come : HasCome m wire Chunked came
  pub bad : IsBad limit Chunked came
  pub at : reason.at ≡ length wire
  pub fault : Fault
  pub what : reason.what ≡ what.Fault fault
  pub in_part : BreaksIn limit came fault

-- nothing is decided, and the bytes end there, which is told
pub record IsCutOff (limit : ℕ) (m : Method) (wire : List ℕ) (reason : Reason) : Type 0 where
  pub undecided : IsUndecidedOf limit m wire
  pub at : reason.at ≡ length wire
  pub told : Cut
  pub what : reason.what ≡ what.Cut told
  pub place : IsCutIn m wire told

-- rule body-stream-reason: Of a response whose content is handed on the reason is told as of one that is held: in its heads the same; of a byte of a
-- chunked body that isn't allowed, its number and the part of a chunked body that it belongs to; and where nothing is decided, where the bytes
-- end.
abbrev pub TellsWhy : ℕ → Method → List ℕ → Reason → Type 0
TellsWhy limit m wire reason = IsOfHeads m wire reason ⊎ BreaksChunks limit m wire reason ⊎ IsCutOff limit m wire reason

-- the reason says where the bytes end only where nothing is decided
abbrev pub IsCutWhereOpen : StreamState → Reason → Type 0
IsCutWhereOpen s reason = (told : Cut) → reason.what ≡ what.Cut told → s ≡ stand.More

-- none is told: the bytes begin with a whole response, or are one, or the body is too large, or there are more bytes than are counted
abbrev pub HasNoWhy : StreamValue → Type 0
HasNoWhy s =
    BeginsWithAny s.method s.wire ⊎ (s.stand ≡ stand.Whole) ⊎ (s.stand ≡ stand.Fault code.FilesizeExceeded) ⊎ (most_counted ≤ length s.wire)
