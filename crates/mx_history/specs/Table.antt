-- What a table has, and which events it is the table of.
use Rattle.std.specs.Prelude.{ℕ, max, ◌+◌, ◌≡◌, ◌&&◌, nat_lt, if◌then◌else◌, Bool, List, [], length, map, replicate, true, slice_index, slice_set}
use Rattle.mx_types.specs.Limits.{most_handles, most_seats}
use Rattle.mx_types.specs.declared.event.What.{What}
use Rattle.mx_types.specs.declared.event.What.TheVariants as what
use Rattle.mx_types.specs.declared.names.Ticket.{Ticket}
use Rattle.mx_types.specs.declared.event.Who.{Who}
use Rattle.mx_types.specs.declared.event.Who.TheVariants as maker
use Rattle.mx_types.specs.declared.event.Event.{Event}
use Rattle.mx_history.specs.declared.row.Row.{Row}
use Rattle.mx_history.specs.History.{past, is_maker, is_legal, beyond, made_by, waiting, running, paused, has_ticket, phase_of, wakes}
use Rattle.mx_history.specs.Answers.{is_ready}
use Rattle.mx_history.specs.Rows.{rows_after, waits_after, table_of, is_open, is_paused}

-- how many events each seat and each worker made
pub record Counts : Type 0 where
  pub seats : List ℕ
  pub workers : List ℕ

-- the rows of the added handles, the tickets whose message waits, one more than the greatest ticket that was given, how many
-- events there were, how many there were after the last Wake or Done, and who made how many
pub record TableView : Type 0 where
  pub rows : List Row
  pub waiting : List Ticket
  pub beyond : ℕ
  pub events : ℕ
  pub woken : ℕ
  pub makers : Counts

abbrev pub count_of : Who → Counts → ℕ
count_of (maker.Seat n) c = slice_index c.seats n
count_of (maker.Worker n) c = slice_index c.workers n

-- rule board-published: The published version is the table of the published events; after a publish these are all events.
--
-- the table is that of the events, which are a legal history
pub record IsTableOf (j : List Event) (t : TableView) : Type 0 where
  pub legal : is_legal j ≡ true
  pub rowed : t.rows ≡ table_of j
  pub waits : t.waiting ≡ map (λ m. m.ticket) (waiting j)
  pub numbered : t.beyond ≡ beyond j
  pub counted : t.events ≡ length j
  pub woke : (mark : ℕ) → nat_lt mark t.woken ≡ is_ready mark j
  pub made : (w : Who) → is_maker w ≡ true → count_of w t.makers ≡ made_by w j

-- the row has the phase of its addition
pub record IsRow (j : List Event) (r : Row) : Type 0 where
  pub phase : r.phase ≡ phase_of r.ticket j
  pub runs : has_ticket r.ticket (running j) ≡ is_open r.phase
  pub held : has_ticket r.ticket (paused j) ≡ is_paused r.phase

-- one more in a count, where there is such a count that can still rise
abbrev pub count_one : ℕ → List ℕ → List ℕ
count_one n counts = (if nat_lt n most_seats && nat_lt (slice_index counts n) 4294967295 then slice_set counts n (slice_index counts n + 1) else counts)

abbrev pub counts_after : Who → Counts → Counts
counts_after (maker.Seat n) c = record { seats = count_one n c.seats; workers = c.workers }
counts_after (maker.Worker n) c = record { seats = c.seats; workers = count_one n c.workers }

abbrev pub zeros : List ℕ
zeros = replicate most_seats 0

abbrev pub no_counts : Counts
no_counts = record { seats = zeros; workers = zeros }

-- the table of no events
abbrev pub empty_table : TableView
empty_table = record { rows = []; waiting = []; beyond = 0; events = 0; woken = 0; makers = no_counts }

-- there is a count for each seat and each worker
abbrev pub HasCounters : Counts → Type 0
HasCounters c = (length c.seats ≡ most_seats) × (length c.workers ≡ most_seats)

-- the table has space for the event
abbrev pub has_space_for : TableView → What → Bool
has_space_for t (what.Added _ _) = nat_lt (length t.rows) most_handles
has_space_for t (what.Done _ _ _) = nat_lt (length t.waiting) most_handles
has_space_for t _ = true

abbrev pub has_space : TableView → What → Bool
has_space t e = has_space_for t e && nat_lt t.events 4294967295

-- the table after an event, whatever the event: as it was where there is no space for it
abbrev pub table_after : TableView → Event → TableView
table_after t e =
    (if has_space t e.what then record {
      rows = rows_after t.rows e.what;
      waiting = waits_after t.waiting e.what;
      beyond = max t.beyond (past e.what);
      events = t.events + 1;
      woken = (if wakes e.what then t.events + 1 else t.woken);
      makers = counts_after e.who t.makers;
    }
    else t)
