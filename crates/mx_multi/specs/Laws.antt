-- What is known of a seat after many calls.
use Rattle.std.specs.Prelude.{◌≡◌, true, List, map}
use Rattle.mx_types.specs.declared.names.Ticket.{Ticket}
use Rattle.mx_types.specs.declared.call.Call.{Call}
use Rattle.mx_types.specs.declared.call.Receipt.{Receipt}
use Rattle.mx_types.specs.declared.origin.Origin.{Origin}
use Rattle.mx_journal.specs.History.{is_legal}
use Rattle.mx_lock.specs.Ties.{tie, Has}
use Rattle.mx_multi.specs.Seats.{SeatView, Ran}

-- the calls of the script were answered, in its order: their receipts come after those that the seat had
pub record RanScript {Q O : Type 0} (s t : SeatView Q O) (script : List Call) : Type 0 where
  pub more : List Receipt
  pub ran : Ran s t more
  pub calls : map (λ (r : Receipt). r.call) more ≡ script

-- the seats have seen one legal journal
pub record Met {Q O : Type 0} (s t : SeatView Q O) : Type 0 where
  pub seen : s.seen ≡ t.seen
  pub legal : is_legal s.seen ≡ true

-- for two seats that were told of it, the addition under a ticket is of one request
abbrev pub AreToldAlike : List Origin → List Origin → Type 0
AreToldAlike xs ys = (t : Ticket) (a b : Origin) → Has xs (tie t a) → Has ys (tie t b) → a ≡ b
