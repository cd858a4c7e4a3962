-- What is kept beside the rows.
use Rattle.std.specs.Prelude.{ℕ, ◌<◌, ◌≤◌, ◌≡◌, ◌==◌, List, length, map, slice_index, false}
use Rattle.std.specs.List.{count_by}
use Rattle.mx_types.specs.Limits.{most_handles}
use Rattle.mx_types.specs.declared.names.Ticket.{Ticket}
use Rattle.mx_types.specs.declared.event.What.{What}
use Rattle.mx_history.specs.declared.row.Row.{Row}
use Rattle.mx_history.specs.History.{same_ticket}
use Rattle.mx_history.specs.Rows.{places, turned}

-- for each slot, how many of the rows have it
pub record AreCounts (counts : List ℕ) (rows : List Row) : Type 0 where
  pub each : length counts ≡ most_handles
  pub count : (n : ℕ) → n < most_handles → slice_index counts n ≡ count_by (λ r. r.slot == n) rows

-- the numbers of the rows' handles and tickets, in the rows' order, how many events the rows have to come, and how many
-- rows have each slot
pub record AreKept (rows : List Row) (of_handles of_tickets : List ℕ) (to_come : ℕ) (counts : List ℕ) : Type 0 where
  pub few : length rows ≤ most_handles
  pub handles : of_handles ≡ map (λ r. r.handle.0) rows
  pub tickets : of_tickets ≡ map (λ r. r.ticket.0) rows
  pub due : to_come ≡ places rows
  pub slots : AreCounts counts rows

-- the event changes no row but the ticket's
abbrev pub IsOf : Ticket → What → Type 0
IsOf t e = (r : Row) → same_ticket r.ticket t ≡ false → turned e r ≡ r
