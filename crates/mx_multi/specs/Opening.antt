-- Opening a multi handle, and opening it anew over what was retired.
use Rattle.std.specs.Prelude.{◌≡◌, ℕ, ◌+◌, ◌≤◌, nat_le, vec_capacity, vec_len, ◌&&◌, Bool, true, false, if◌then◌else◌, List, [], ◌∷◌, length, All}
use Rattle.std.specs.VecDeque.{deque_len}
use Rattle.logbook.specs.Pages.{Book}
use Rattle.mx_types.specs.Limits.{least_history, most_history, most_seats}
use Rattle.mx_types.specs.declared.event.Event.{Event}
use Rattle.mx_types.specs.declared.event.Who.{Who}
use Rattle.mx_types.specs.declared.event.Who.TheVariants as who
use Rattle.mx_types.specs.declared.origin.Origin.{Origin}
use Rattle.mx_board.specs.Board.{ReaderState, caught_up}
use Rattle.mx_board.specs.Progress.{new_seat}
use Rattle.mx_lock.specs.Engine.{EngineState, content}
use Rattle.mx_multi.specs.declared.founding.Rooms.{Rooms}
use Rattle.mx_multi.specs.declared.open.Limits.{Limits}
use Rattle.mx_multi.specs.declared.open.OpenError.{OpenError}
use Rattle.mx_multi.specs.declared.open.OpenError.TheVariants as refusal
use Rattle.mx_multi.specs.Seats.{MultiView, SeatView, IsNew}

-- the most idle connections that a worker may be allowed to keep
abbrev pub most_connects : ℕ
most_connects = 64

-- rule multi-limits: `open` takes 1 to 16 seats and workers, a history of 4 to 1,048,576 events, and at most 64 idle connections.
abbrev pub are_within : Limits → Bool
are_within l = nat_le 1 l.seats && nat_le l.seats most_seats && nat_le 1 l.workers && nat_le l.workers most_seats && nat_le least_history l.history && nat_le l.history most_history && nat_le l.max_connects most_connects

-- the number of a refusal
abbrev pub open_number : OpenError → ℕ
open_number refusal.BadLimits = 1
open_number refusal.OutOfMemory = 2

-- the maker of the seat, or of the worker's seat, with the number
abbrev pub maker_of : Bool → ℕ → Who
maker_of worker n = if worker then who.Worker n else who.Seat n

-- the number of the first key of the seats, and of the workers' seats
abbrev pub first_of : Bool → ℕ
first_of worker = if worker then 17 else 1

-- readers for the makers from the nth on, which have seen the journal
abbrev pub AreReaders : Bool → ℕ → List Event → Book → List ReaderState → Type 0
AreReaders worker n j book [] = Unit {0}
AreReaders worker n j book (r ∷ rs) = (r ≡ caught_up (maker_of worker n) j book) × AreReaders worker (n + 1) j book rs

-- rooms for a multi handle with these limits, whose readers have seen the journal: a reader, a place and progress words for each seat
pub record AreRooms {Q O : Type 0} (l : Limits) (j : List Event) (book : Book) (r : Rooms Q O) : Type 0 where
  pub seats : AreReaders false 0 j book r.for_seats.items × (deque_len r.for_seats ≡ l.seats)
  pub workers : AreReaders true 0 j book r.for_workers.items × (deque_len r.for_workers ≡ l.workers)
  pub notes : All (λ s. s ≡ new_seat r.words) r.notes.items × (vec_len r.notes ≡ l.seats + l.workers)
  pub seat_places : (r.seats.items ≡ []) × (l.seats ≤ vec_capacity r.seats)
  pub worker_places : (r.workers.items ≡ []) × (l.workers ≤ vec_capacity r.workers)

-- new seats of the makers from the nth on
abbrev pub AreNew : {Q O : Type 0} → MultiView Q O → List Event → List Origin → Bool → ℕ → List (SeatView Q O) → Type 0
AreNew m j ties worker n [] = Unit {0}
AreNew m j ties worker n (s ∷ ss) = IsNew m j ties (maker_of worker n) s × AreNew m j ties worker (n + 1) ss

-- a multi handle over this engine, with these limits: its seats and its workers' seats, each with a maker of its own, have seen the
-- journal with which the engine began, and know its ties
pub record IsFounded {Q O : Type 0} (l : Limits) (x : EngineState Q O) (m : MultiView Q O) (seats workers : List (SeatView Q O)) : Type 0 where
  pub engine : m.engine ≡ (content x).engine
  pub limits : m.limits ≡ l
  pub seats_new : AreNew m x.core.journal x.ties.entries false 0 seats
  pub seats_all : length seats ≡ l.seats
  pub workers_new : AreNew m x.core.journal x.ties.entries true 0 workers
  pub workers_all : length workers ≡ l.workers
  pub seats_own : All (λ (s : SeatView Q O). s.of ≡ m) seats
  pub workers_own : All (λ (s : SeatView Q O). s.of ≡ m) workers

-- what was opened, with these limits: the seats and the workers' seats, each with a maker of its own, have seen nothing
pub record IsOpened {Q O : Type 0} (l : Limits) (m : MultiView Q O) (seats workers : List (SeatView Q O)) : Type 0 where
  pub opening : m.engine.opening ≡ record { history = l.history; first = 0; from = 0 }
  pub limits : m.limits ≡ l
  pub seats_new : AreNew m [] [] false 0 seats
  pub seats_all : length seats ≡ l.seats
  pub workers_new : AreNew m [] [] true 0 workers
  pub workers_all : length workers ≡ l.workers
  pub seats_own : All (λ (s : SeatView Q O). s.of ≡ m) seats
  pub workers_own : All (λ (s : SeatView Q O). s.of ≡ m) workers
