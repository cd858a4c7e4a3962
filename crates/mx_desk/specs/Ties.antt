-- The seats of a desk, and what they were told.
use Rattle.std.specs.Prelude.{Bool, List, [], Option, Some, None, if◌then◌else◌}
use mathlib.Core.List.{IsPrefix}
use Rattle.mx_types.specs.declared.origin.Origin.{Origin}
use Rattle.mx_chain.specs.Outcomes.{OutcomeValue}
use Rattle.mx_multi.specs.Seats.{SeatView}

-- the requests of additions, as each of two seats was told
pub record SeatTies : Type 0 where
  pub first : List Origin
  pub beside : List Origin

-- what contracts see of the seats of a desk: the first one, and the one beside it, if there is one
pub record SeatsView (Q : Type 0) : Type 0 where
  pub first : SeatView Q OutcomeValue
  pub beside : Option (SeatView Q OutcomeValue)

-- a first one, and one beside it
abbrev pub two : {Q : Type 0} → SeatView Q OutcomeValue → SeatView Q OutcomeValue → SeatsView Q
two first beside = record { first = first; beside = Some beside }

-- what the seat beside the first one was told, where there is one
abbrev pub ties_beside : {Q O : Type 0} → Option (SeatView Q O) → List Origin
ties_beside None = []
ties_beside (Some seat) = seat.ties

-- what both were told
abbrev pub ties_of : {Q : Type 0} → SeatsView Q → SeatTies
ties_of seats = record { first = seats.first.ties; beside = ties_beside seats.beside }

-- what the seat at which an addition was made was told
abbrev pub ties_at : SeatTies → Bool → List Origin
ties_at ties beside = if beside then ties.beside else ties.first

-- each seat was told no less
pub record AreLater (old new : SeatTies) : Type 0 where
  pub first : IsPrefix old.first new.first
  pub beside : IsPrefix old.beside new.beside
