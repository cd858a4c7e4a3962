-- A meeting of all seats.
use Rattle.std.specs.Prelude.{◌≡◌, ◌⊎◌, ℕ, ◌<◌, true, List, length, slice_index_or}
use Rattle.mx_types.specs.declared.code.Code.{Code}
use Rattle.mx_types.specs.declared.event.Event.{Event}
use Rattle.mx_journal.specs.History.{is_legal}
use Rattle.mx_lock.specs.Engine.{EngineState}
use Rattle.mx_multi.specs.Retiring.{FoundIn, OneFindsOther}
use Rattle.mx_multi.specs.Seats.{Finds, IsNoOlder, MultiView, SeatView, Sees}

-- the seat has seen this journal, with no receipt for that, and has claimed and given back nothing
pub record SeesAll {Q O : Type 0} (j : List Event) (s t : SeatView Q O) : Type 0 where
  pub sees : Sees s t
  pub seen : t.seen ≡ j
  pub claims : t.claims ≡ s.claims
  pub given : t.given ≡ s.given

-- each of the seats has
abbrev pub AllSee : {Q O : Type 0} → List Event → List (SeatView Q O) → List (SeatView Q O) → Type 0
AllSee {Q} {O} j before after = (length after ≡ length before) × ((k : ℕ) (d : SeatView Q O) → k < length before → SeesAll j (slice_index_or before k d) (slice_index_or after k d))

-- rule multi-meet-all: All seats that meet have seen one journal.
--
-- each seat and each worker's seat has then seen one legal journal, with so many events
pub record Meets {Q O : Type 0} (seats met workers met_workers : List (SeatView Q O)) (n : ℕ) : Type 0 where
  pub list : List Event
  pub legal : is_legal list ≡ true
  pub count : n ≡ length list
  pub for_seats : AllSee list seats met
  pub for_workers : AllSee list workers met_workers

-- a seat, or one of those beside it, isn't the multi handle's: the journal in its lock, which is no older than what that one has seen, doesn't
-- begin with that, or has another number of events that are its own
abbrev pub OneIsWrong : {Q O : Type 0} → (O → Code) → (O → ℕ) → MultiView Q O → SeatView Q O → List (SeatView Q O) → List (SeatView Q O) → Type 0
OneIsWrong {Q} {O} code size m one seats workers =
    (x : EngineState Q O) × FoundIn code size m x × ((IsNoOlder one x.core.journal × (Finds one x.core.journal → ⊥)) ⊎ (OneFindsOther x.core.journal seats ⊎ OneFindsOther x.core.journal workers))
