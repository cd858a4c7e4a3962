-- What the core's state is, for contracts, and when it is sound.
use Rattle.std.specs.Prelude.{ℕ, ◌+◌, ◌≤◌, ◌≡◌, min, List, length, map, take, true, not, Option, Some, slice_get}
use Rattle.std.specs.List.{AllByRecursion, filter, list_any}
use Rattle.mx_types.specs.Limits.{greatest_ticket, most_handles}
use Rattle.mx_types.specs.declared.code.Code.{Code}
use Rattle.mx_types.specs.declared.names.HandleId.{HandleId}
use Rattle.mx_types.specs.declared.names.Ticket.{Ticket}
use Rattle.mx_types.specs.declared.event.Event.{Event}
use Rattle.mx_types.specs.declared.event.Who.{Who}
use Rattle.mx_types.specs.declared.origin.Origin.{Origin}
use Rattle.mx_history.specs.Answers.{next_ticket}
use Rattle.mx_history.specs.Table.{Counts, TableView, IsTableOf, HasCounters, count_of}
use Rattle.mx_history.specs.History.{HasRoomForDue, IsInOrder, Message, Opening, added, beyond, is_maker, made_by, retire, same_ticket, waiting, running, has_ticket}

-- what it was opened with, and what retiring changed of that; the journal; for each ticket below the next one, in their order, the request
-- of the work that was queued under it last, in older history too, and no request under those below the ticket that it began with; the work
-- that waits for a worker; the endings that wait to be read; and how many claims are out
pub record Core (Q O : Type 0) : Type 0 where
  pub opening : Opening
  pub journal : List Event
  pub origins : List Origin
  pub queue : List (Ticket × Q)
  pub endings : List (Ticket × O)
  pub out : ℕ

-- all the same, but for how many claims are out
abbrev pub with_out : {Q O : Type 0} → ℕ → Core Q O → Core Q O
with_out n core = record core { out = n }

-- one claim more, as far as can be counted
abbrev pub one_out : ℕ → ℕ
one_out n = min (n + 1) 18446744073709551615

-- what retiring leaves: the events of the tickets that are added, and all else as it was. The next ticket stays the one that it was, and
-- the events that are left count as those of older history
abbrev pub retired : {Q O : Type 0} → Core Q O → Core Q O
retired core = record core {
  opening = record { history = core.opening.history; first = (next_ticket core.opening core.journal).0; from = length (retire core.journal) };
  journal = retire core.journal;
}

-- a claim: its addition, the slot of that addition, and its work's request
pub record Claimed : Type 0 where
  pub handle : HandleId
  pub ticket : Ticket
  pub slot : ℕ
  pub origin : Origin

-- the request of the work that was queued under the ticket: tickets number the origins
abbrev pub origin_of : Ticket → List Origin → Option Origin
origin_of t origins = slice_get origins t.0

-- each is of the work that was queued under its ticket
abbrev pub AreOwn : {X : Type 0} → (X → Origin) → List Origin → List (Ticket × X) → Type 0
AreOwn origin origins xs = AllByRecursion (λ x. origin_of x.0 origins ≡ Some (origin x.1)) xs

abbrev pub queued : {Q : Type 0} → List (Ticket × Q) → List Ticket
queued queue = map (λ x. x.0) queue

-- the tickets that run and don't wait for a worker: a worker has claimed them
abbrev pub claimed : {Q : Type 0} → List Event → List (Ticket × Q) → List Ticket
claimed j queue = filter (λ t. not (has_ticket t (queued queue))) (running j)

-- the message of an ending, by what its type says of it
abbrev pub message : {O : Type 0} → (O → Code) → (O → ℕ) → Ticket × O → Message
message code size x = record { ticket = x.0; code = code x.1; size = size x.1 }

-- the journal is legal and has room for what is due; the queue has running tickets, each once, by ticket;
-- the endings are those of the messages that wait, in their order
pub record IsSound {Q O : Type 0} (code : O → Code) (size : O → ℕ) (history : ℕ) (journal : List Event) (queue : List (Ticket × Q)) (endings : List (Ticket × O)) : Type 0 where
  pub kept : HasRoomForDue history journal
  pub ordered : IsInOrder (queued queue)
  pub runs : AllByRecursion (λ t. has_ticket t (running journal) ≡ true) (queued queue)
  pub waits : map (message code size) endings ≡ waiting journal

-- what is kept beside the journal agrees with it, and the journal has its space
pub record IsTabled (history : ℕ) (j : List Event) (t : TableView) (space : ℕ) : Type 0 where
  pub table : IsTableOf j t
  pub sized : HasCounters t.makers
  pub fits : history ≤ space

-- the core's state with the space that it has reserved
pub record IsControl {Q O : Type 0} (code : O → Code) (size : O → ℕ) (history : ℕ) (journal : List Event) (queue : List (Ticket × Q)) (endings : List (Ticket × O)) (for_queue for_endings : ℕ) : Type 0 where
  pub sound : IsSound code size history journal queue endings
  pub queue_fits : most_handles ≤ for_queue
  pub endings_fit : most_handles ≤ for_endings

-- no ticket above the greatest was given, in older history either; the journal begins with what was kept of older history, and who made how
-- many of those events is known
pub record IsBegun (opening : Opening) (journal : List Event) (before : Counts) : Type 0 where
  pub first : opening.first ≤ greatest_ticket + 1
  pub given : beyond journal ≤ greatest_ticket + 1
  pub begun : opening.from ≤ length journal
  pub makers : (who : Who) → is_maker who ≡ true → count_of who before ≡ made_by who (take opening.from journal)

-- the origins, with the ticket below which there was no work
pub record OriginList : Type 0 where
  pub begun : ℕ
  pub all : List Origin

-- there is an origin for each ticket below the next one; queued work is of its ticket's; and each ticket that is added had work
pub record KeepsOrigins {Q : Type 0} (origin : Q → Origin) (opening : Opening) (journal : List Event) (origins : OriginList) (queue : List (Ticket × Q)) : Type 0 where
  pub each : length origins.all ≡ (next_ticket opening journal).0
  pub own : AreOwn origin origins.all queue
  pub begins : origins.begun ≤ length origins.all
  pub since : AllByRecursion (λ t. origins.begun ≤ t.0) (map (λ a. a.ticket) (added journal))

-- work whose ticket runs
abbrev pub still_running : {X : Type 0} → List Event → List (Ticket × X) → List (Ticket × X)
still_running j xs = filter (λ x. has_ticket x.0 (running j)) xs

-- endings whose message waits
abbrev pub still_waiting : {X : Type 0} → List Event → List (Ticket × X) → List (Ticket × X)
still_waiting j xs = filter (λ x. list_any (λ m. same_ticket x.0 m.ticket) (waiting j)) xs
