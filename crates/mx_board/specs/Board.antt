-- What a board and its readers are to their callers.
use Rattle.std.specs.Prelude.{◌≡◌, ◌⊎◌, ℕ, ◌+◌, ◌≤◌, List, [], ◌∷◌, ◌++◌, length, take, true, Option, Some, None}
use Rattle.std.specs.Option.{MatchOption}
use mathlib.Core.List.{IsPrefix}
use Rattle.logbook.specs.Pages.{Book}
use Rattle.mx_append_log.specs.Log.{Mark}
use Rattle.mx_types.specs.declared.names.HandleId.{HandleId}
use Rattle.mx_types.specs.declared.event.Who.{Who}
use Rattle.mx_types.specs.declared.event.Event.{Event}
use Rattle.mx_history.specs.History.{is_legal, made_by}
use Rattle.mx_history.specs.Answers.{ticket_of}
use Rattle.mx_history.specs.Slots.{slot_of}
use Rattle.mx_board.specs.declared.queries.Found.{Found}

-- the events that were appended, those that are published, and which journal it is
pub record BoardState : Type 0 where
  pub events : List Event
  pub published : List Event
  pub book : Book

-- whose reader it is, what it has seen of which journal, and how many events of that are confirmed: a read alone shows the last one
pub record ReaderState : Type 0 where
  pub who : Who
  pub seen : List Event
  pub book : Book
  pub confirmed : ℕ

abbrev pub mark_of : List Event → Book → Mark Event
mark_of j b = record { entries = j; book = b }

-- rule board-catch-up: A reader that catches up has seen all that is published.
--
-- the reader has seen all these events, and they are confirmed
abbrev pub caught_up : Who → List Event → Book → ReaderState
caught_up w j b = record { who = w; seen = j; book = b; confirmed = length j }

-- all events that it has seen are confirmed, or all but the last
abbrev pub ConfirmsAllButLast : ReaderState → Type 0
ConfirmsAllButLast r = (r.confirmed ≤ length r.seen) × (length r.seen ≤ r.confirmed + 1)

-- rule board-reads: A read answers by what its reader has then seen, and never by less than it had seen.
-- rule board-own-events: A version without the reader's own events isn't taken.
--
-- a read: what was seen afterwards is a legal list that begins with what was seen before, and has no event more of the reader's owner
pub record Reads (r t : ReaderState) : Type 0 where
  pub who : t.who ≡ r.who
  pub book : t.book ≡ r.book
  pub later : IsPrefix r.seen t.seen
  pub legal : is_legal t.seen ≡ true
  pub own : made_by r.who t.seen ≡ made_by r.who r.seen
  pub confirmed : r.confirmed ≤ t.confirmed
  pub but_last : ConfirmsAllButLast t

-- the list, or all of it but its last event, is a prefix of the other
abbrev pub BeginsButLast : List Event → List Event → Type 0
BeginsButLast xs j = IsPrefix xs j ⊎ ((ys : List Event) × (e : Event) × (xs ≡ ys ++ e ∷ []) × IsPrefix ys j)

-- two lists, all but the last event of each, are prefixes of one list
abbrev pub AreOfOneJournal : List Event → List Event → Type 0
AreOfOneJournal xs ys = (j : List Event) × BeginsButLast xs j × BeginsButLast ys j

abbrev pub OneBeginsOther : List Event → List Event → Type 0
OneBeginsOther xs ys = IsPrefix xs ys ⊎ IsPrefix ys xs

-- rule board-confirmed: What is confirmed of what a reader has seen, its board has.
--
-- the confirmed events of a reader
abbrev pub confirmed_of : ReaderState → List Event
confirmed_of r = take r.confirmed r.seen

-- what is found of a handle: the ticket and the slot of its addition, or that it is not added
abbrev pub IsFound : HandleId → List Event → Option Found → Type 0
IsFound h j found = MatchOption found (ticket_of h j ≡ None) (λ f. (ticket_of h j ≡ Some f.ticket) × (slot_of f.ticket j ≡ Some f.slot))

-- which journal it is, as the name of a log
abbrev pub name_of : Book → List ℕ
name_of b = b.number ∷ b.log_name ∷ b.cells_name ∷ []
