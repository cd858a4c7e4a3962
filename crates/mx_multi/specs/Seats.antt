-- What a seat has seen, and what a call says of it.
use Rattle.std.specs.Prelude.{◌≡◌, ℕ, ◌+◌, ◌-◌, ◌≤◌, if◌then◌else◌, true, false, List, [], ◌∷◌, ◌++◌, length, take}
use Rattle.std.specs.List.{AllByRecursion}
use mathlib.Core.List.{IsPrefix}
use Rattle.atomic_table.specs.Seated.{TableId}
use Rattle.atomic_table.specs.declared.badge.Badge.{Badge}
use Rattle.crossbeam_channel.specs.declared.flavors.array.Key.{Key}
use Rattle.mx_types.specs.declared.code.Code.{Code}
use Rattle.mx_types.specs.declared.names.Ticket.{Ticket}
use Rattle.mx_types.specs.declared.event.Who.{Who}
use Rattle.mx_types.specs.declared.event.Event.{Event}
use Rattle.mx_types.specs.declared.call.Call.{Call}
use Rattle.mx_types.specs.declared.call.Receipt.{Receipt}
use Rattle.mx_types.specs.declared.reply.Reply.{Reply}
use Rattle.mx_types.specs.declared.origin.Origin.{Origin}
use Rattle.mx_journal.specs.History.{has_ticket, is_legal, made_by}
use Rattle.mx_journal.specs.Answers.{Answers, is_ready}
use Rattle.mx_journal.specs.Receipts.{comes_with_event, is_poll, mark, IsPlaced}
use Rattle.mx_journal.specs.declared.replies.GiveBackReply.{GiveBackReply}
use Rattle.mx_journal.specs.Replies.{is_back, queue_given}
use Rattle.mx_journal.specs.Called.{out_after}
use Rattle.mx_journal.specs.Core.{claimed, one_out, queued, with_out}
use Rattle.mx_board.specs.Board.{ReaderState, ConfirmsAllButLast}
use Rattle.mx_board.specs.Progress.{NoteState}
use Rattle.mx_lock.specs.Engine.{EngineState, EngineId, IsLocked, content}
use Rattle.mx_lock.specs.Lock.{maker, engine_of}
use Rattle.mx_lock.specs.Queues.{Moved, LeavesWork}
use Rattle.mx_lock.specs.declared.key_view.KeyView.{KeyView}
use Rattle.mx_multi.specs.declared.open.Limits.{Limits}

-- which engine it is: its lock, its journal and what that began with, its progress words, and the limits that it was opened with
pub record MultiView (Q O : Type 0) : Type 0 where
  pub table : TableId
  pub keys : Badge (Key (EngineState Q O))
  pub engine : EngineId
  pub words : TableId
  pub limits : Limits

-- a seat: of which engine it is, which maker, the events that it has seen, how many of these are confirmed by more than a
-- read, how many they were at its last poll, the tickets that it has claimed and those that it has given back, the progress words
-- that it has noted and read, of which requests additions are, as it was told under the lock, and the receipts of its answered calls
pub record SeatView (Q O : Type 0) : Type 0 where
  pub of : MultiView Q O
  pub who : Who
  pub seen : List Event
  pub confirmed : ℕ
  pub polled : ℕ
  pub claims : List Ticket
  pub given : List Ticket
  pub words : NoteState
  pub ties : List Origin
  pub mine : List Receipt

-- the seat's key is free, and its reader has seen no less than the key, and no event more of its maker
pub record IsSeat (v : KeyView) (r : ReaderState) : Type 0 where
  pub free : v.holding ≡ false
  pub told : v.told ≡ true
  pub who : maker v.number ≡ r.who
  pub book : r.book ≡ (engine_of v).book
  pub later : IsPrefix v.seen r.seen
  pub own : made_by r.who r.seen ≡ made_by r.who v.seen
  pub but_last : ConfirmsAllButLast r

-- a journal that begins with what the reader has seen, and has no event more of its maker
abbrev pub IsAhead : ReaderState → List Event → Type 0
IsAhead r j = IsPrefix r.seen j × (made_by r.who j ≡ made_by r.who r.seen)

-- the seat's receipts are those of its calls: they are in what it has seen, and the last poll among them is its last poll
pub record HasReceipts {Q O : Type 0} (s : SeatView Q O) : Type 0 where
  pub placed : IsPlaced s.of.engine.opening s.who s.mine s.seen
  pub polled : mark s.of.engine.opening.from s.mine ≡ s.polled

-- a journal that begins with what the seat has seen, and has no event more of its own
pub record Finds {Q O : Type 0} (s : SeatView Q O) (j : List Event) : Type 0 where
  pub later : IsPrefix s.seen j
  pub own : made_by s.who j ≡ made_by s.who s.seen

-- a journal that has all that is confirmed of what the seat has seen, and so is no older than that
pub record IsNoOlder {Q O : Type 0} (s : SeatView Q O) (j : List Event) : Type 0 where
  pub long : s.confirmed ≤ length j
  pub begins : IsPrefix (take s.confirmed s.seen) j

-- what was confirmed stays confirmed; and now all that was seen is confirmed, or all but the last event
pub record Confirms {Q O : Type 0} (s t : SeatView Q O) : Type 0 where
  pub more : s.confirmed ≤ t.confirmed
  pub within : t.confirmed ≤ length t.seen
  pub but_last : length t.seen ≤ t.confirmed + 1

-- rule multi-linearized: An answered call is linearized: it has one place in one legal journal, after all that its seat had seen.
-- rule multi-reads: A read takes no lock: it has no bound by which it might block, and is answered while another call holds the lock.
--
-- The call was answered: after a journal that begins with what the seat has seen, it left the events that the seat has
-- then seen, and its receipt comes after the others.
pub record Stands {Q O : Type 0} (s t : SeatView Q O) (call : Call) (reply : Reply) : Type 0 where
  pub of : t.of ≡ s.of
  pub who : t.who ≡ s.who
  pub later : IsPrefix s.seen t.seen
  pub legal : is_legal t.seen ≡ true
  pub found : (j : List Event) × Finds s j × Answers s.of.engine.opening s.who call j reply t.seen
  pub confirmed : Confirms s t
  pub claims : t.claims ≡ s.claims
  pub given : t.given ≡ s.given
  pub words : t.words ≡ s.words
  pub ties : IsPrefix s.ties t.ties
  pub polled : t.polled ≡ (if is_poll call then length t.seen else s.polled)
  pub ready : is_poll call ≡ true → is_ready s.polled t.seen ≡ true
  pub mine : t.mine ≡ s.mine ++ record { cut = length t.seen; call = call; reply = reply } ∷ []
  pub placed : HasReceipts s → HasReceipts t

-- rule multi-meeting: A meeting shows both seats one list.
--
-- the seat has seen a journal, with no receipt for that: those that it had stay placed
pub record Sees {Q O : Type 0} (s t : SeatView Q O) : Type 0 where
  pub of : t.of ≡ s.of
  pub who : t.who ≡ s.who
  pub polled : t.polled ≡ s.polled
  pub confirmed : t.confirmed ≡ length t.seen
  pub words : t.words ≡ s.words
  pub ties : IsPrefix s.ties t.ties
  pub found : Finds s t.seen
  pub legal : is_legal t.seen ≡ true
  pub mine : t.mine ≡ s.mine
  pub placed : HasReceipts s → HasReceipts t

-- the seat has read a published version, with no receipt for that: those that it had stay placed
pub record SeesVersion {Q O : Type 0} (s t : SeatView Q O) : Type 0 where
  pub of : t.of ≡ s.of
  pub who : t.who ≡ s.who
  pub polled : t.polled ≡ s.polled
  pub claims : t.claims ≡ s.claims
  pub given : t.given ≡ s.given
  pub ties : t.ties ≡ s.ties
  pub confirmed : Confirms s t
  pub found : Finds s t.seen
  pub legal : is_legal t.seen ≡ true
  pub mine : t.mine ≡ s.mine
  pub placed : HasReceipts s → HasReceipts t

-- a state of the engine in the lock, with the journal that the seat has seen
pub record FoundState {Q O : Type 0} (code : O → Code) (size : O → ℕ) (s : SeatView Q O) (x : EngineState Q O) : Type 0 where
  pub journal : x.core.journal ≡ s.seen
  pub engine : (content x).engine ≡ s.of.engine
  pub locked : IsLocked code size x

-- rule multi-wrong-seat: A call under the lock is answered `WrongSeat` only where the journal there doesn't begin with what its seat has
-- seen. It has all that is confirmed of that, and no event more of the seat's own.
--
-- The engine in the lock of the seat's multi handle when a call was refused: its journal begins with what is confirmed of what the seat has
-- seen, and has as many events of the seat's own, but doesn't begin with all that the seat has seen.
pub record FindsOther {Q O : Type 0} (code : O → Code) (size : O → ℕ) (s : SeatView Q O) : Type 0 where
  pub found : EngineState Q O
  pub engine : (content found).engine ≡ s.of.engine
  pub locked : IsLocked code size found
  pub newer : IsNoOlder s found.core.journal
  pub own : made_by s.who found.core.journal ≡ made_by s.who s.seen
  pub other : Finds s found.core.journal → ⊥

-- rule multi-wrong-seat
-- The same where another seat entered the lock: the journal may have another number of events that are this seat's own.
pub record MeetsOther {Q O : Type 0} (code : O → Code) (size : O → ℕ) (s : SeatView Q O) : Type 0 where
  pub found : EngineState Q O
  pub engine : (content found).engine ≡ s.of.engine
  pub locked : IsLocked code size found
  pub newer : IsNoOlder s found.core.journal
  pub other : Finds s found.core.journal → ⊥

-- What was there when a poll was not to return: a journal that begins with what the seat has seen, of which no event at or after the seat's
-- mark lets it return
pub record FindsNoneReady {Q O : Type 0} (code : O → Code) (size : O → ℕ) (s : SeatView Q O) : Type 0 where
  pub found : EngineState Q O
  pub engine : (content found).engine ≡ s.of.engine
  pub locked : IsLocked code size found
  pub newer : IsNoOlder s found.core.journal
  pub begins : Finds s found.core.journal
  pub none : is_ready s.polled found.core.journal ≡ false

-- A call of a seat left the engine so, with this reply: it found a state whose journal begins with what the seat had seen, and left one
-- with the journal that the seat has then seen. Work left the queue only where it runs no more, and an ending only where it was read or
-- its message was removed; what the call added or recorded comes last. Where the call came with no event, queue and endings are as they
-- were. An end that isn't refused memory spends its claim.
pub record LeavesState {Q O : Type 0} (code : O → Code) (size : O → ℕ) (s t : SeatView Q O) (reply : Reply) (moved : Moved Q O) : Type 0 where
  pub found : EngineState Q O
  pub engine : (content found).engine ≡ s.of.engine
  pub begins : Finds s found.core.journal
  pub locked : IsLocked code size found
  pub after : EngineState Q O
  pub left : FoundState code size t after
  pub out : after.core.out ≡ out_after reply found.core.out
  pub work : LeavesWork moved found.core after.core
  pub unchanged : comes_with_event reply ≡ false → after.core ≡ with_out (out_after reply found.core.out) found.core

-- rule multi-least-ticket: A claim takes the work of the least ticket in the queue.
--
-- What was claimed came first in the queue that was found there, under the least ticket. The queue that was left is the rest, the ticket is
-- then claimed, the endings are as they were, and one claim more is out.
pub record ClaimsLeast {Q O : Type 0} (code : O → Code) (size : O → ℕ) (s : SeatView Q O) (ticket : Ticket) (work : Q) : Type 0 where
  pub found : EngineState Q O
  pub is : FoundState code size s found
  pub least : AllByRecursion (λ u. ticket.0 ≤ u.0) (queued found.core.queue)
  pub after : EngineState Q O
  pub left : FoundState code size s after
  pub first : found.core.queue ≡ (ticket, work) ∷ after.core.queue
  pub claimed : has_ticket ticket (claimed after.core.journal after.core.queue) ≡ true
  pub endings : after.core.endings ≡ found.core.endings
  pub out : after.core.out ≡ one_out found.core.out

-- Work was given back: where its ticket ran and wasn't queued, it is at its place by ticket in the queue that was left.
-- Else the queue was left as it was found. The claim is spent.
pub record GivesBack {Q O : Type 0} (code : O → Code) (size : O → ℕ) (s : SeatView Q O) (ticket : Ticket) (work : Q) (reply : GiveBackReply Q) : Type 0 where
  pub found : EngineState Q O
  pub is : FoundState code size s found
  pub back : is_back reply ≡ has_ticket ticket (claimed found.core.journal found.core.queue)
  pub after : EngineState Q O
  pub left : FoundState code size s after
  pub queue : after.core.queue ≡ queue_given reply found.core.queue ticket work
  pub endings : after.core.endings ≡ found.core.endings
  pub out : after.core.out ≡ found.core.out - 1

-- the tickets that a seat has given back, once work of this one went back, or didn't
abbrev pub given_with : {Q : Type 0} → GiveBackReply Q → Ticket → List Ticket → List Ticket
given_with reply t given = if is_back reply then given ++ t ∷ [] else given

-- the queue that was found there, with the journal that the seat has then seen, was empty
pub record ClaimsNothing {Q O : Type 0} (code : O → Code) (size : O → ℕ) (s : SeatView Q O) : Type 0 where
  pub found : EngineState Q O
  pub is : FoundState code size s found
  pub none : found.core.queue ≡ []

-- a new seat of the engine: it has seen the journal with which the engine began, knows its ties, and has made no call
pub record IsNew {Q O : Type 0} (m : MultiView Q O) (j : List Event) (known : List Origin) (w : Who) (s : SeatView Q O) : Type 0 where
  pub of : s.of ≡ m
  pub who : s.who ≡ w
  pub seen : s.seen ≡ j
  pub confirmed : s.confirmed ≡ length j
  pub polled : s.polled ≡ m.engine.opening.from
  pub claims : s.claims ≡ []
  pub given : s.given ≡ []
  pub ties : s.ties ≡ known
  pub mine : s.mine ≡ []
  pub noted : s.words.noted ≡ []
  pub read : s.words.read ≡ []

-- the same seat, later: further calls of it were answered, and these are their receipts, which come after those that it had
pub record Later {Q O : Type 0} (s t : SeatView Q O) (more : List Receipt) : Type 0 where
  pub of : t.of ≡ s.of
  pub who : t.who ≡ s.who
  pub later : IsPrefix s.seen t.seen
  pub ties : IsPrefix s.ties t.ties
  pub legal : is_legal s.seen ≡ true → is_legal t.seen ≡ true
  pub mine : t.mine ≡ s.mine ++ more
  pub placed : HasReceipts s → HasReceipts t

-- from s on, calls of the seat were answered, with these receipts, and it claimed no ticket
pub record Ran {Q O : Type 0} (s t : SeatView Q O) (more : List Receipt) : Type 0 where
  pub run : Later s t more
  pub claims : t.claims ≡ s.claims
