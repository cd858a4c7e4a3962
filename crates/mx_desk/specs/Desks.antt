-- What is added at a desk, and what it ended with.
use Rattle.std.specs.Prelude.{◌≡◌, ◌⊎◌, ℕ, ◌^◌, ◌<◌, ◌≤◌, Bool, true, false, List, All, Option, Some, None, count_by, is_none, is_some, length, map, option_map, slice_get, slice_set}
use Rattle.mx_types.specs.declared.call.Call.TheVariants as call
use Rattle.mx_types.specs.declared.names.Ticket.{Ticket}
use Rattle.mx_types.specs.declared.reply.Reply.TheVariants as reply
use Rattle.mx_request.specs.Request.{RequestValue}
use Rattle.mx_chain.specs.Outcomes.{OutcomeValue}
use Rattle.mx_multi.specs.Seats.{SeatView, Stands}
use Rattle.mx_desk.specs.Additions.{AdditionView, IsToldAt}
use Rattle.mx_desk.specs.Calls.{AtLast, AtSeat, IsRefused, ReadsEnd, handle_at}
use Rattle.mx_desk.specs.Ties.{SeatTies, SeatsView}

-- its seats; the addition under each number, and its request; how many may be added at a time; and whether the multi handle of the seat
-- that came last takes no more
pub record DeskValue (Q : Type 0) : Type 0 where
  pub seats : SeatsView Q
  pub added : List (Option AdditionView)
  pub asked : List (Option RequestValue)
  pub width : ℕ
  pub full : Bool

-- the request of what is under a number
abbrev pub asked_at : Option AdditionView → Option RequestValue
asked_at o = option_map (λ a. a.request) o

-- The seats were told of the additions that were made at them, and so many requests are added, which are no more than may be.
pub record IsDesk (ties : SeatTies) (additions : List (Option AdditionView)) (width count : ℕ) : Type 0 where
  pub told : All (IsToldAt ties) additions
  pub waiting : count ≡ count_by is_some (map asked_at additions)
  pub within : count ≤ width

-- one request more may be added
abbrev pub HasRoom : {Q : Type 0} → DeskValue Q → Type 0
HasRoom desk = count_by is_some desk.asked < desk.width

-- with this seat alone, nothing is added under any of so many numbers
pub record IsNewDesk {Q : Type 0} (seat : SeatView Q OutcomeValue) (n w : ℕ) (desk : DeskValue Q) : Type 0 where
  pub none : All (λ o. o ≡ None) desk.asked
  pub count : length desk.asked ≡ n
  pub width : desk.width ≡ w
  pub first : desk.seats.first ≡ seat
  pub beside : desk.seats.beside ≡ None
  pub takes : desk.full ≡ false

-- rule save-requests: What ends under a number is the request that was added there, and its URL is closed with that end.
--
-- this request is added under a number, where nothing was
pub record Adds {Q : Type 0} (old new : DeskValue Q) (at : ℕ) (request : RequestValue) : Type 0 where
  pub free : slice_get old.asked at ≡ Some None
  pub asked : new.asked ≡ slice_set old.asked at (Some request)
  pub width : new.width ≡ old.width

-- rule save-requests
-- its addition stands in the history of the seat that came last, under this ticket, and its handle is the number
pub record StandsAdded {Q : Type 0} (old new : DeskValue Q) (at : ℕ) (ticket : Ticket) (request : RequestValue) : Type 0 where
  pub added : new.added ≡ slice_set old.added at (Some (record { ticket = ticket; beside = is_some old.seats.beside; request = request }))
  pub stands : AtLast (λ s t. Stands s t (call.Add (handle_at at)) (reply.Added ticket)) old.seats new.seats
  pub full : new.full ≡ old.full

-- None is added under the number: something is, or it is no number of the desk or no handle, or the seat that came last was refused. So the
-- desk is full.
pub record AddsNone {Q : Type 0} (old new : DeskValue Q) (at : ℕ) : Type 0 where
  pub added : new.added ≡ old.added
  pub why : (((slice_get old.asked at ≡ Some None → ⊥) ⊎ (2 ^ 32 ≤ at)) × (new.seats ≡ old.seats)) ⊎ AtLast (IsRefused (handle_at at)) old.seats new.seats
  pub full : new.full ≡ true

-- rule save-requests
-- the request that was added under this number has ended, and nothing is added under it now
pub record Ends {Q : Type 0} (old new : DeskValue Q) (at : ℕ) (request : RequestValue) : Type 0 where
  pub added : slice_get old.asked at ≡ Some (Some request)
  pub asked : new.asked ≡ slice_set old.asked at None
  pub width : new.width ≡ old.width

-- this addition was there
pub record TakesOut {Q : Type 0} (old new : DeskValue Q) (at : ℕ) (addition : AdditionView) : Type 0 where
  pub was : slice_get old.added at ≡ Some (Some addition)
  pub added : new.added ≡ slice_set old.added at None
  pub full : new.full ≡ old.full

-- rule save-requests
-- It was the addition of this ticket. Its message was read at the seat at which it was made, and its handle, which is the number, was
-- removed there.
pub record TakesEnd {Q : Type 0} (old new : DeskValue Q) (at : ℕ) (ticket : Ticket) (o : OutcomeValue) : Type 0 where
  pub beside : Bool
  pub out : TakesOut old new at (record { ticket = ticket; beside = beside; request = o.request })
  pub read : AtSeat (ReadsEnd (handle_at at) ticket o) beside old.seats new.seats

-- the same requests are added
pub record Stays {Q : Type 0} (old new : DeskValue Q) : Type 0 where
  pub asked : new.asked ≡ old.asked
  pub width : new.width ≡ old.width

-- with this seat beside the first one, or none
pub record IsBeside {Q : Type 0} (old : DeskValue Q) (seat : Option (SeatView Q OutcomeValue)) (new : DeskValue Q) : Type 0 where
  pub stays : Stays old new
  pub added : new.added ≡ old.added
  pub first : new.seats.first ≡ old.seats.first
  pub beside : new.seats.beside ≡ seat
  pub full : new.full ≡ is_none seat
