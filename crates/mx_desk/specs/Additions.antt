-- Additions whose ends are awaited.
use Rattle.std.specs.Prelude.{◌≡◌, ℕ, ◌==◌, ◌&&◌, Bool, true, false, not, List, Option, Some, None, slice_get}
use Rattle.std.specs.Option.{option_map_or}
use Rattle.mx_types.specs.declared.names.Ticket.{Ticket}
use Rattle.mx_types.specs.declared.origin.Origin.{Origin}
use Rattle.mx_request.specs.Request.{RequestValue, IsRequest, request_origin}
use Rattle.mx_lock.specs.Ties.{Has, tie}
use Rattle.mx_desk.specs.Ties.{SeatTies, ties_at}

-- what contracts see of one: its number, whether it was made at the seat beside the first one, and its request
pub record AdditionView : Type 0 where
  pub ticket : Ticket
  pub beside : Bool
  pub request : RequestValue

-- a seat with these ties was told that the addition is of its request
pub record IsTold (ties : List Origin) (addition : AdditionView) : Type 0 where
  pub request : IsRequest addition.request
  pub told : Has ties (tie addition.ticket (request_origin addition.request))

-- which holds, of the seat at which it was made, for one that is under a number
abbrev pub IsToldAt : SeatTies → Option AdditionView → Type 0
IsToldAt ties None = Unit {0}
IsToldAt ties (Some addition) = IsTold (ties_at ties addition.beside) addition

-- it was made at the seat beside the first one, or at the first one
abbrev pub is_at : Bool → AdditionView → Bool
is_at true addition = addition.beside
is_at false addition = not addition.beside

-- no addition was made at the seat beside the first one
abbrev pub AreAtFirst : List (Option AdditionView) → Type 0
AreAtFirst additions = (i : ℕ) (addition : AdditionView) → slice_get additions i ≡ Some (Some addition) → addition.beside ≡ false

-- the addition of this ticket, made at that seat, is under a number
abbrev pub awaits : Ticket → Bool → Option AdditionView → Bool
awaits t beside None = false
awaits t beside (Some addition) = (addition.ticket.0 == t.0) && is_at beside addition

abbrev pub awaits_at : List (Option AdditionView) → ℕ → Ticket → Bool → Bool
awaits_at additions i t beside = option_map_or (awaits t beside) (slice_get additions i) false
