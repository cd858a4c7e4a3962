-- The rule of the published versions. Private functions alone cite it.
use Rattle.std.specs.Prelude.{◌≡◌, ℕ, ◌<◌, List, [], ◌∷◌, ◌++◌, length, fold, Bool, true, false}
use mathlib.Core.Option.{some}
use mathlib.Core.List.{IsPrefix}
use lib.ListN.{get_elem?}
use Rattle.logbook.specs.Pages.{Book}
use Rattle.mx_append_log.specs.Log.{Mark}
use Rattle.mx_types.specs.declared.event.Event.{Event}
use Rattle.mx_history.specs.Table.{TableView, IsTableOf, HasCounters, table_after}
use Rattle.mx_board.specs.Board.{mark_of}
use Rattle.mx_board.specs.declared.view.ReaderView.{ReaderView}
use Rattle.mx_board.specs.declared.operation.Operation.{Operation}

-- a version: the table, and its journal
abbrev pub Shown : Type 0
Shown = TableView × Mark Event

-- the operation of an event after these
abbrev pub operation : Event → Mark Event → Operation
operation e m = record { event = e; before = m }

-- the version after an operation, and after several
abbrev pub shown_after : Shown → Operation → Shown
shown_after s o = (table_after s.0 o.event, mark_of (o.before.entries ++ o.event ∷ []) o.before.book)

abbrev pub shown_by : Shown → List Operation → Shown
shown_by s os = fold (λ x o. shown_after x o) s os

-- the version's table is that of its journal
pub record IsSound (x : Shown) : Type 0 where
  pub table : IsTableOf x.1.entries x.0
  pub sized : HasCounters x.0.makers

-- nothing was seen, and no journal is known; and all of a journal was seen
abbrev pub first_view : ReaderView
first_view = record { knows = false; number = 0; log_name = 0; cells_name = 0; seen = [] }

abbrev pub view_of : Mark Event → ReaderView
view_of m = record { knows = true; number = m.book.number; log_name = m.book.log_name; cells_name = m.book.cells_name; seen = m.entries }

abbrev pub book_of : ReaderView → Book
book_of v = record { number = v.number; log_name = v.log_name; cells_name = v.cells_name }

-- the version's journal begins with what was seen, and is the one that is known
pub record Agrees (x : Shown) (v : ReaderView) : Type 0 where
  pub later : IsPrefix v.seen x.1.entries
  pub book : v.knows ≡ true → book_of v ≡ x.1.book

-- the rule: the published version is the table of its journal, which begins with what each place has seen
abbrev pub Keeps : Shown → List ReaderView → Type 0
Keeps x views = IsSound x × ((place : ℕ) (v : ReaderView) → get_elem? views place ≡ some v → Agrees x v)

-- what an enter and a publish show: the version agreed with what was seen, is sound, and was then seen
abbrev pub CaughtUp : ReaderView → Shown → ReaderView → Type 0
CaughtUp v x w = Agrees x v × IsSound x × (w ≡ view_of x.1)

-- the place has seen no less than these events of their journal
pub record HasSeen (m : Mark Event) (v : ReaderView) : Type 0 where
  pub knows : v.knows ≡ true
  pub book : book_of v ≡ m.book
  pub later : IsPrefix m.entries v.seen

-- at most one operation waits to be published: that of the last event
abbrev pub IsWaiting : List Operation → Mark Event → List Event → Type 0
IsWaiting [] m events = events ≡ m.entries
IsWaiting (o ∷ []) m events = (o.before ≡ m) × (events ≡ m.entries ++ o.event ∷ [])
IsWaiting (o ∷ p ∷ os) m events = ⊥

-- what a board keeps, between its version, the place of its writer, what waits, its journal and whether it is broken
pub record IsBoard (shown : Shown) (place : ReaderView) (pending : List Operation) (journal : Mark Event) (broken : Bool) : Type 0 where
  pub sound : IsSound shown
  pub book : shown.1.book ≡ journal.book
  pub shown_to : place ≡ view_of shown.1
  pub waits : broken ≡ false → IsWaiting pending shown.1 journal.entries
  pub whole : broken ≡ true → journal.entries ≡ shown.1.entries
  pub few : length journal.entries < 4294967295
