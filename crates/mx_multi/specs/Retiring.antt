-- Retiring a multi handle, and a meeting of all its seats.
use Rattle.std.specs.Prelude.{◌≡◌, ◌⊎◌, ℕ, ◌+◌, ◌<◌, ◌≤◌, List, [], length, slice_index_or}
use Rattle.std.specs.List.{All}
use Rattle.mx_types.specs.declared.code.Code.{Code}
use Rattle.mx_types.specs.declared.event.Event.{Event}
use Rattle.mx_types.specs.declared.origin.Origin.{Origin}
use Rattle.mx_append_log.specs.Log.{AreOfOneList}
use Rattle.mx_journal.specs.Core.{retired}
use Rattle.mx_lock.specs.Engine.{EngineState, IsLocked, content}
use Rattle.mx_multi.specs.Opening.{IsFounded}
use Rattle.mx_multi.specs.Seats.{Finds, IsNoOlder, MultiView, SeatView}
use Rattle.mx_multi.specs.declared.open.Limits.{Limits}
use Rattle.mx_multi.specs.declared.retire.Retiring.{Retiring}
use Rattle.mx_multi.specs.declared.retire.Retiring.TheVariants as retiring
use Rattle.mx_multi.specs.declared.retire.Refusal.{Refusal}
use Rattle.mx_multi.specs.declared.retire.Refusal.TheVariants as refusal

-- the journal begins with what each of the seats has seen, and has no event more of its own
abbrev pub AllFind : {Q O : Type 0} → List Event → List (SeatView Q O) → Type 0
AllFind j seats = All (λ s. Finds s j) seats

-- that doesn't hold for one of the seats, though the journal is no older than what that seat has seen
abbrev pub OneFindsOther : {Q O : Type 0} → List Event → List (SeatView Q O) → Type 0
OneFindsOther {Q} {O} j seats =
    (k : ℕ) × (d : SeatView Q O) × (k < length seats) × IsNoOlder (slice_index_or seats k d) j × (Finds (slice_index_or seats k d) j → ⊥)

-- the ties that each of the seats was told, and this list, are prefixes of one list
abbrev pub AllToldOf : {Q O : Type 0} → List Origin → List (SeatView Q O) → Type 0
AllToldOf ties seats = All (λ s. AreOfOneList s.ties ties) seats

-- the engine in the lock of the multi handle: its control state was sound
pub record FoundIn {Q O : Type 0} (code : O → Code) (size : O → ℕ) (m : MultiView Q O) (x : EngineState Q O) : Type 0 where
  pub engine : (content x).engine ≡ m.engine
  pub locked : IsLocked code size x

-- a seat is missing that `open` or the last retiring gave
abbrev pub LacksSeats : {Q O : Type 0} → MultiView Q O → List (SeatView Q O) → List (SeatView Q O) → Type 0
LacksSeats m seats workers = (length seats < m.limits.seats) ⊎ (length workers < m.limits.workers)

-- rule multi-retire
-- The multi handle n, with new seats, is m retired: no seat was missing; its engine is what was found in the lock of m, at which no claim
-- was out, with its old history retired; and what was found continues what each old seat had seen and was told.
pub record IsRetiredTo {Q O : Type 0} (code : O → Code) (size : O → ℕ) (m : MultiView Q O) (seats workers : List (SeatView Q O)) (n : MultiView Q O) (new_seats new_workers : List (SeatView Q O)) : Type 0 where
  pub all : LacksSeats m seats workers → ⊥
  pub found : EngineState Q O
  pub is : FoundIn code size m found
  pub idle : found.core.out ≡ 0
  pub of_seats : AllFind found.core.journal seats × AllToldOf found.ties.entries seats
  pub of_workers : AllFind found.core.journal workers × AllToldOf found.ties.entries workers
  pub after : EngineState Q O
  pub retired : after.core ≡ retired found.core
  pub ties : after.ties ≡ found.ties
  pub founded : IsFounded m.limits after n new_seats new_workers

-- one of the seats isn't the multi handle's: the journal in its lock, which is no older than what that seat has seen, doesn't begin with that,
-- or has another number of events that are its own
abbrev pub HasWrongSeat : {Q O : Type 0} → (O → Code) → (O → ℕ) → MultiView Q O → List (SeatView Q O) → List (SeatView Q O) → Type 0
HasWrongSeat {Q} {O} code size m seats workers =
    (x : EngineState Q O) × FoundIn code size m x × (OneFindsOther x.core.journal seats ⊎ OneFindsOther x.core.journal workers)

-- each is the multi handle's, by this engine in the lock
abbrev pub HasRightSeats : {Q O : Type 0} → (O → Code) → (O → ℕ) → MultiView Q O → List (SeatView Q O) → List (SeatView Q O) → EngineState Q O → Type 0
HasRightSeats code size m seats workers x = FoundIn code size m x × AllFind x.core.journal seats × AllFind x.core.journal workers

-- rule multi-retire: A multi handle is retired with all its seats, and only while no claim is out; else everything comes back.
--
-- why a multi handle isn't retired: the first of these that holds. Where there is no application's seat, none is looked at.
abbrev pub IsRefused : {Q O : Type 0} → (O → Code) → (O → ℕ) → MultiView Q O → List (SeatView Q O) → List (SeatView Q O) → Refusal → Type 0
IsRefused code size m seats workers refusal.WrongSeat = HasWrongSeat code size m seats workers
IsRefused {Q} {O} code size m seats workers refusal.SeatsMissing =
    LacksSeats m seats workers × ((seats ≡ []) ⊎ ((x : EngineState Q O) × HasRightSeats code size m seats workers x))
IsRefused {Q} {O} code size m seats workers refusal.ClaimOut =
    (x : EngineState Q O) × HasRightSeats code size m seats workers x × (0 < x.core.out) × (LacksSeats m seats workers → ⊥)
IsRefused {Q} {O} code size m seats workers refusal.OutOfMemory =
    (x : EngineState Q O) × HasRightSeats code size m seats workers x × (x.core.out ≡ 0) × (LacksSeats m seats workers → ⊥)

-- what blocks retiring, where there is one seat more than these, and this is in the lock
abbrev pub Hinders : {Q O : Type 0} → EngineState Q O → Limits → List (SeatView Q O) → List (SeatView Q O) → Refusal → Type 0
Hinders x l seats workers refusal.WrongSeat = OneFindsOther x.core.journal seats ⊎ OneFindsOther x.core.journal workers
Hinders x l seats workers refusal.SeatsMissing = AllFind x.core.journal seats × AllFind x.core.journal workers × ((length seats + 1 < l.seats) ⊎ (length workers < l.workers))
Hinders x l seats workers refusal.ClaimOut = AllFind x.core.journal seats × AllFind x.core.journal workers × (l.seats ≤ length seats + 1) × (l.workers ≤ length workers) × (0 < x.core.out)
Hinders x l seats workers refusal.OutOfMemory = AllFind x.core.journal seats × AllFind x.core.journal workers × (l.seats ≤ length seats + 1) × (l.workers ≤ length workers) × (x.core.out ≡ 0)

-- nothing blocks it but a refusal of memory
pub record MayRetire {Q O : Type 0} (x : EngineState Q O) (l : Limits) (seats workers : List (SeatView Q O)) : Type 0 where
  pub of_seats : AllFind x.core.journal seats × AllToldOf x.ties.entries seats
  pub of_workers : AllFind x.core.journal workers × AllToldOf x.ties.entries workers
  pub all_seats : l.seats ≤ length seats + 1
  pub all_workers : l.workers ≤ length workers
  pub idle : x.core.out ≡ 0

abbrev pub MatchRetiring : {T : Type 0} → Retiring T → (T → Type 0) → (Refusal → T → Type 0) → Type 0
MatchRetiring (retiring.Retired t) done refused = done t
MatchRetiring (retiring.Refused why t) done refused = refused why t

-- the number of a refusal
abbrev pub refusal_number : Refusal → ℕ
refusal_number refusal.WrongSeat = 0
refusal_number refusal.SeatsMissing = 1
refusal_number refusal.ClaimOut = 2
refusal_number refusal.OutOfMemory = 3
