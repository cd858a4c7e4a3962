-- Private: how far a reader of a chunked body came in a piece.
use Rattle.std.specs.Prelude.{◌≡◌, ℕ, ◌+◌, ◌<◌, ◌≤◌, ◌++◌, false, true, List, length, take}
use Rattle.mx_body.specs.declared.chunked.place.ChunkedPlace.{ChunkedPlace}
use Rattle.mx_body.specs.ChunkedPlace.{place_after, is_settled}
use Rattle.mx_flow.specs.Data.{data_from}
use Rattle.mx_flow.specs.Steps.{place_of}
use Rattle.mx_flow.specs.declared.chunks.Run.{Run}

-- the data among the first n bytes of the input
abbrev pub run_data : ℕ → ChunkedPlace → List ℕ → ℕ → List ℕ
run_data limit from input n = data_from limit from (take n input)

-- before the last of n bytes nothing was settled, and the content had room
abbrev pub WasGoing : ℕ → ChunkedPlace → ℕ → List ℕ → ℕ → Type 0
WasGoing limit from room input n =
    (k : ℕ) × (n ≡ k + 1) × (is_settled (place_after limit from (take k input)) ≡ false) × (length (run_data limit from input k) ≤ room)

-- so the last of n bytes was taken at this place
abbrev pub WasTakenAt : ℕ → ChunkedPlace → List ℕ → ℕ → ChunkedPlace → Type 0
WasTakenAt limit from input n before = (k : ℕ) × (n ≡ k + 1) × (before ≡ place_after limit from (take k input))

-- the place that the bytes lead to, the room that is left, and what was handed on; where there is a byte of content too many, it is the last
-- one taken
pub record HasRun (limit : ℕ) (from : ChunkedPlace) (room : ℕ) (input : List ℕ) (r : Run) (before after : List ℕ) : Type 0 where
  pub within : r.len ≤ length input
  pub place : r.over ≡ false → place_of r.place ≡ place_after limit from (take r.len input)
  pub room_is : r.over ≡ false → r.room + length (run_data limit from input r.len) ≡ room
  pub over : r.over ≡ true → room < length (run_data limit from input r.len)
  pub handed : after ≡ before ++ take room (run_data limit from input r.len)
  pub all : r.over ≡ false → is_settled (place_of r.place) ≡ false → r.len ≡ length input
  pub last : r.over ≡ true → WasGoing limit from room input r.len
  pub settled : r.over ≡ false → is_settled (place_of r.place) ≡ true → WasGoing limit from room input r.len
  pub before_is : r.over ≡ false → is_settled (place_of r.place) ≡ true → WasTakenAt limit from input r.len (place_of r.before)
