-- The rows of the table, one for each addition, in order, and its waiting tickets, kept event by event.
use Rattle.std.specs.Prelude.{ℕ, ◌<◌, ◌≡◌, slice_index_or, Bool, true, false, not, if◌then◌else◌, ◌||◌, List, [], ◌∷◌, ◌++◌, map}
use Rattle.std.specs.List.{filter, sum_by}
use Rattle.mx_types.specs.Limits.{most_handles}
use Rattle.mx_types.specs.declared.names.Ticket.{Ticket}
use Rattle.mx_types.specs.declared.event.What.{What}
use Rattle.mx_types.specs.declared.event.What.TheVariants as what
use Rattle.mx_types.specs.declared.event.Event.{Event}
use Rattle.mx_history.specs.declared.row.Row.{Row}
use Rattle.mx_history.specs.declared.row.Phase.{Phase}
use Rattle.mx_history.specs.declared.row.Phase.TheVariants as phase
use Rattle.mx_history.specs.History.{same_ticket, reads, removes}
use Rattle.mx_history.specs.Slots.{has_slot, lowest_free}

abbrev pub is_open : Phase → Bool
is_open phase.Running = true
is_open phase.Paused = true
is_open (phase.Done _) = false
is_open (phase.Read _) = false

abbrev pub is_paused : Phase → Bool
is_paused phase.Running = false
is_paused phase.Paused = true
is_paused (phase.Done _) = false
is_paused (phase.Read _) = false

abbrev pub is_read : Phase → Bool
is_read phase.Running = false
is_read phase.Paused = false
is_read (phase.Done _) = false
is_read (phase.Read _) = true

-- the phases that an end, a reading, a pause and a resumption lead to
abbrev pub ended_phase : Phase → Phase → Phase
ended_phase new phase.Running = new
ended_phase new phase.Paused = new
ended_phase new (phase.Done code) = phase.Done code
ended_phase new (phase.Read code) = phase.Read code

abbrev pub read_phase : Phase → Phase
read_phase (phase.Done code) = phase.Read code
read_phase (phase.Read code) = phase.Read code
read_phase phase.Running = phase.Running
read_phase phase.Paused = phase.Paused

-- the phase of the ticket's addition after the event
abbrev pub phase_after : Ticket → What → Phase → Phase
phase_after t (what.Done u code _) p = (if same_ticket t u then ended_phase (phase.Done code) p else p)
phase_after t (what.Read u) p = (if same_ticket t u then read_phase p else p)
phase_after t (what.Paused u) p = (if same_ticket t u then ended_phase phase.Paused p else p)
phase_after t (what.Resumed u) p = (if same_ticket t u then ended_phase phase.Running p else p)
phase_after t _ p = p

-- the tickets of the rows with their slots
abbrev pub slots_in : List Row → List (Ticket × ℕ)
slots_in rows = map (λ r. (r.ticket, r.slot)) rows

-- the marks say which of the slots 0 to 255 the rows have
abbrev pub Marks : List Bool → List Row → Type 0
Marks marks rows = (n : ℕ) → n < most_handles → slice_index_or marks n false ≡ has_slot n (slots_in rows)

-- the row after an event that adds and removes nothing
abbrev pub turned : What → Row → Row
turned e r = record r { phase = phase_after r.ticket e r.phase }

abbrev pub rows_after : List Row → What → List Row
rows_after rows (what.Added h t) =
    rows ++ (record { handle = h; ticket = t; slot = lowest_free (slots_in rows); phase = phase.Running }) ∷ []
rows_after rows (what.Removed h t) = filter (λ r. not (same_ticket r.ticket t)) rows
rows_after rows e = map (turned e) rows

-- the waiting tickets after the event
abbrev pub waits_after : List Ticket → What → List Ticket
waits_after ts (what.Done t _ _) = ts ++ t ∷ []
waits_after ts e = filter (λ t. not (reads t e || removes t e)) ts

-- the rows after a list of events, from rows on
abbrev pub table_from : List Row → List Event → List Row
table_from rows [] = rows
table_from rows (e ∷ j) = table_from (rows_after rows e.what) j

abbrev pub table_of : List Event → List Row
table_of j = table_from [] j

-- how many places an addition in this phase has to come
abbrev pub places_of : Phase → ℕ
places_of phase.Running = 3
places_of phase.Paused = 3
places_of (phase.Done _) = 2
places_of (phase.Read _) = 1

abbrev pub places : List Row → ℕ
places rows = sum_by (λ r. places_of r.phase) rows
