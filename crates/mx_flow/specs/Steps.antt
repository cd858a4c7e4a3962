-- Private: the place in a body while more of it is to come.
use Rattle.std.specs.Prelude.{◌≡◌, ℕ, ◌+◌, ◌-◌, ◌^◌, ◌<◌, ◌≤◌, min, List, [], ◌∷◌, ◌++◌, length}
use Rattle.mx_head.specs.declared.types.Framing.{Framing}
use Rattle.mx_head.specs.declared.types.Framing.TheVariants.{Empty, Counted, Chunked, Close}
use Rattle.mx_body.specs.declared.chunked.place.ChunkedPlace.{ChunkedPlace}
use Rattle.mx_body.specs.declared.chunked.place.ChunkedPlace.TheVariants as place
use Rattle.mx_body.specs.ChunkedPlace.{place_after}
use Rattle.mx_flow.specs.Data.{data_from}
use Rattle.mx_flow.specs.Flows.{FlowValue}
use Rattle.mx_flow.specs.declared.place.WidePlace.{WidePlace}
use Rattle.mx_flow.specs.declared.place.WidePlace.TheVariants as wide
use Rattle.mx_flow.specs.declared.flow.BodyState.{BodyState}
use Rattle.mx_flow.specs.declared.flow.BodyState.TheVariants as state

-- the most bytes that are counted
abbrev pub most_counted : ℕ
most_counted = 2 ^ 64 - 1

-- the same place, as the grammar's reader has it
abbrev pub place_of : WidePlace → ChunkedPlace
place_of wide.Start = place.Start
place_of (wide.Size n) = place.Size n
place_of (wide.Extension n) = place.Extension n
place_of (wide.SizeLf n) = place.SizeLf n
place_of (wide.Data n) = place.Data n
place_of wide.DataCr = place.DataCr
place_of wide.DataLf = place.DataLf
place_of wide.TrailerStart = place.TrailerStart
place_of wide.Trailer = place.Trailer
place_of wide.TrailerLf = place.TrailerLf
place_of wide.EndLf = place.EndLf
place_of wide.Done = place.Done
place_of wide.Bad = place.Bad
place_of wide.TooLarge = place.TooLarge

-- where the bytes led a reader of chunks, and how many bytes of content may still come
abbrev pub IsAt : ℕ → Framing → List ℕ → WidePlace → ℕ → Type 0
IsAt limit Empty came at left = Unit {0}
IsAt limit (Counted n) came at left = left + length came ≡ n
IsAt limit Chunked came at left = (place_after limit place.Start came ≡ place_of at) × (left + length (data_from limit place.Start came) ≡ limit)
IsAt limit Close came at left = left + length came ≡ limit

-- before the last of the bytes they led there
abbrev pub WasAt : ℕ → List ℕ → WidePlace → Type 0
WasAt limit came before = (front : List ℕ) × (last : ℕ) × (came ≡ front ++ last ∷ []) × (place_of before ≡ place_after limit place.Start front)

-- so many bytes came, as far as they are counted
abbrev pub IsCounted : List ℕ → ℕ → Type 0
IsCounted came count = count ≡ min (length came) most_counted

-- what a place says of the bytes that led there
abbrev pub state_at : WidePlace → BodyState
state_at wide.Done = state.Whole
state_at wide.Bad = state.Bad
state_at wide.TooLarge = state.TooLarge
state_at _ = state.More

-- how many bytes of content may come
abbrev pub first_left : Framing → ℕ → ℕ
first_left (Counted n) limit = n
first_left _ limit = limit

-- there is room for the content that the bytes are, or there is not
abbrev pub HasRoom : FlowValue → List ℕ → Type 0
HasRoom f piece = length f.came + length piece ≤ f.limit

abbrev pub HasTooMany : FlowValue → List ℕ → Type 0
HasTooMany f piece = f.limit < length f.came + length piece
