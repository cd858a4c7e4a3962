-- What every legal history keeps: the statements of the laws.
use mathlib.Core.List.{IsPrefix}
use Rattle.std.specs.Prelude.{◌⊎◌, ℕ, ◌<◌, ◌≤◌, ◌≡◌, ◌||◌, Bool, true, false, Some, None, Option, List, [], ◌∷◌, ◌++◌, length, map, take, drop, not, ◌&&◌}
use Rattle.std.specs.List.{AllByRecursion, count_by, filter, find, flat_map, list_any}
use Rattle.std.specs.Option.{is_some, option_map, option_to_list, IsSomeAnd}
use Rattle.mx_types.specs.Limits.{most_handles}
use Rattle.mx_types.specs.declared.code.Code.{Code}
use Rattle.mx_types.specs.declared.names.HandleId.{HandleId}
use Rattle.mx_types.specs.declared.names.Ticket.{Ticket}
use Rattle.mx_types.specs.declared.event.Who.{Who}
use Rattle.mx_types.specs.declared.event.What.{What}
use Rattle.mx_types.specs.declared.event.What.TheVariants as what
use Rattle.mx_types.specs.declared.event.Event.{Event}
use Rattle.mx_types.specs.declared.call.Call.{Call}
use Rattle.mx_types.specs.declared.call.Receipt.{Receipt}
use Rattle.mx_history.specs.History.{IsInOrder, HasRoomForDue, Opening, same_handle, same_ticket, occurs, removes, ends, reads, pauses, resumes, added, waiting, running, paused, beyond, due, retire, is_legal, may_follow, has_ticket, made_by}
use Rattle.mx_history.specs.Receipts.{is_poll, mark, Fits, IsPlaced, CutsRise, with_events, events_of, events_by, IsOfMaker}
use Rattle.mx_history.specs.Slots.{has_slot, slots, slot_of}
use Rattle.mx_history.specs.Answers.{answer, Answers, ticket_of, handle_of, state_of, look_of, is_ready}
use Rattle.mx_history.specs.Table.{TableView, IsTableOf, HasCounters, table_after}
use Rattle.mx_types.specs.declared.reply.Reply.{Reply}
use Rattle.mx_types.specs.declared.reply.Look.{Look}
use Rattle.mx_types.specs.declared.reply.Look.TheVariants as look
use Rattle.mx_types.specs.declared.reply.State.{State}
use Rattle.mx_types.specs.declared.reply.State.TheVariants as state

-- the history with one more event of a maker
abbrev pub then : List Event → Who → What → List Event
then j w e = j ++ record { who = w; what = e } ∷ []

-- a prefix of a legal history is legal
abbrev pub PrefixIsLegal : Type 0
PrefixIsLegal = (j k : List Event) → is_legal (j ++ k) ≡ true → is_legal j ≡ true

-- the event of an answer is legal, and leaves room for what is then due
abbrev pub AnswerIsLegal : Type 0
AnswerIsLegal = (opening : Opening) (j : List Event) (call : Call) (e : What) → HasRoomForDue opening.history j → (answer opening j call).1 ≡ Some e
    → (may_follow j e ≡ true) × ((w : Who) → HasRoomForDue opening.history (then j w e))

-- the event is an end, a reading or a removal
abbrev pub is_closing : What → Bool
is_closing (what.Done _ _ _) = true
is_closing (what.Read _) = true
is_closing (what.Removed _ _) = true
is_closing _ = false

-- an end, a reading and a removal always find room
abbrev pub ClosingFindsRoom : Type 0
ClosingFindsRoom = (history : ℕ) (j : List Event) (w : Who) (e : What) → HasRoomForDue history j → is_closing e ≡ true → may_follow j e ≡ true
    → HasRoomForDue history (then j w e)

-- it adds under the ticket
abbrev pub adds : Ticket → What → Bool
adds t (what.Added _ u) = same_ticket t u
adds t _ = false

abbrev pub count_of_events : (What → Bool) → List Event → ℕ
count_of_events test j = count_by (λ e. test e.what) j

-- each ticket is added, ended, read and removed at most once
abbrev pub EachAtMostOnce : Type 0
EachAtMostOnce = (j : List Event) → is_legal j ≡ true → (t : Ticket)
    → (count_of_events (adds t) j ≤ 1) × (count_of_events (ends t) j ≤ 1) × (count_of_events (reads t) j ≤ 1) × (count_of_events (removes t) j ≤ 1)

-- the event is one of the ticket
abbrev pub is_of : Ticket → What → Bool
is_of t e = adds t e || (removes t e || (ends t e || (reads t e || (pauses t e || resumes t e))))

-- after its removal a ticket has no event
abbrev pub NothingAfterRemoval : Type 0
NothingAfterRemoval = (f later : List Event) (w : Who) (h : HandleId) (t : Ticket)
    → is_legal (f ++ record { who = w; what = what.Removed h t } ∷ later) ≡ true → occurs (is_of t) later ≡ false

-- a ticket that was given, and doesn't run, never runs again
abbrev pub NeverRunsAgain : Type 0
NeverRunsAgain = (f later : List Event) (t : Ticket) → is_legal (f ++ later) ≡ true → t.0 < beyond f → has_ticket t (running f) ≡ false
    → has_ticket t (running (f ++ later)) ≡ false

-- no handle is there twice
abbrev pub IsOnceEach : List HandleId → Type 0
IsOnceEach [] = Unit {0}
IsOnceEach (h ∷ hs) = (list_any (same_handle h) hs ≡ false) × IsOnceEach hs

-- no ticket is there twice
abbrev pub IsOncePerTicket : List Ticket → Type 0
IsOncePerTicket [] = Unit {0}
IsOncePerTicket (t ∷ ts) = (has_ticket t ts ≡ false) × IsOncePerTicket ts

-- the added handles: at most 256, each once, by rising tickets
pub record IsTidy (j : List Event) : Type 0 where
  pub few : length (added j) ≤ most_handles
  pub handles : IsOnceEach (map (λ a. a.handle) (added j))
  pub rising : IsInOrder (map (λ a. a.ticket) (added j))
  pub waiting_once : IsOncePerTicket (map (λ m. m.ticket) (waiting j))
  pub waiting_added : AllByRecursion (λ m. is_some (handle_of m.ticket j) ≡ true) (waiting j)

abbrev pub LegalIsTidy : Type 0
LegalIsTidy = (j : List Event) → is_legal j ≡ true → IsTidy j

-- the tickets of the ends, and of the readings, in order
abbrev pub done_of : What → Option Ticket
done_of (what.Done t _ _) = Some t
done_of _ = None

abbrev pub read_of : What → Option Ticket
read_of (what.Read t) = Some t
read_of _ = None

abbrev pub done_tickets : List Event → List Ticket
done_tickets j = flat_map (λ e. option_to_list (done_of e.what)) j

abbrev pub read_tickets : List Event → List Ticket
read_tickets j = flat_map (λ e. option_to_list (read_of e.what)) j

-- the ticket was removed, and its message not read before
abbrev pub is_removed_unread : Ticket → List Event → Bool
is_removed_unread t j = occurs (removes t) j && not (occurs (reads t) j)

-- the messages are read, and wait, in the order of the ends, without those that were removed unread
abbrev pub FirstInFirstOut : Type 0
FirstInFirstOut = (j : List Event) → is_legal j ≡ true
    → read_tickets j ++ map (λ m. m.ticket) (waiting j) ≡ filter (λ t. not (is_removed_unread t j)) (done_tickets j)

-- what a state says: the transfer runs, it is paused, its message waits with this code
abbrev pub says_running : State → Bool
says_running (state.Running _) = true
says_running _ = false

abbrev pub says_paused : State → Bool
says_paused (state.Paused _) = true
says_paused _ = false

abbrev pub says_done : State → Option Code
says_done (state.Done _ code) = Some code
says_done _ = None

-- the ticket that a state names
abbrev pub state_ticket : State → Option Ticket
state_ticket state.NotAdded = None
state_ticket (state.Running t) = Some t
state_ticket (state.Paused t) = Some t
state_ticket (state.Done t _) = Some t
state_ticket (state.Read t _) = Some t

-- what a worker sees of a transfer in this state
abbrev pub look_in : State → Look
look_in (state.Running _) = look.Go
look_in (state.Paused _) = look.Paused
look_in _ = look.Gone

-- the code of the ticket's message, where one waits
abbrev pub waiting_code : Ticket → List Event → Option Code
waiting_code t j = option_map (λ m. m.code) (find (λ m. same_ticket t m.ticket) (waiting j))

-- the state is Running exactly where the ticket runs unpaused, Paused exactly where it is paused, and Done, with its
-- code, exactly where its message waits; and what a worker sees agrees with that
pub record IsStateOf (j : List Event) (t : Ticket) (s : State) : Type 0 where
  pub named : state_ticket s ≡ Some t
  pub runs : says_running s ≡ (has_ticket t (running j) && not (has_ticket t (paused j)))
  pub held : says_paused s ≡ has_ticket t (paused j)
  pub waits : says_done s ≡ waiting_code t j
  pub told : look_of t j ≡ look_in s

-- the state of a handle that is added, and what a worker sees of its ticket
abbrev pub StateAndLookAgree : Type 0
StateAndLookAgree = (j : List Event) → is_legal j ≡ true → (h : HandleId) (t : Ticket) → Some t ≡ ticket_of h j → IsStateOf j t (state_of h j)

-- a poll that may return may return later too
abbrev pub ReadyStays : Type 0
ReadyStays = (mark : ℕ) (j k : List Event) → is_ready mark j ≡ true → is_ready mark (j ++ k) ≡ true

-- no slot is there twice
abbrev pub IsOncePerSlot : List (Ticket × ℕ) → Type 0
IsOncePerSlot [] = Unit {0}
IsOncePerSlot (s ∷ slots) = (has_slot s.1 slots ≡ false) × IsOncePerSlot slots

-- the added tickets, in order, have slots of their own below 256
pub record HasOwnSlots (j : List Event) : Type 0 where
  pub tickets : map (λ s. s.0) (slots j) ≡ map (λ a. a.ticket) (added j)
  pub below : AllByRecursion (λ s. s.1 < most_handles) (slots j)
  pub differ : IsOncePerSlot (slots j)

abbrev pub SlotsDiffer : Type 0
SlotsDiffer = (j : List Event) → is_legal j ≡ true → HasOwnSlots j

-- an added ticket keeps its slot as events follow
abbrev pub SlotStays : Type 0
SlotStays = (j more : List Event) (t : Ticket) (n m : ℕ) → is_legal (j ++ more) ≡ true → slot_of t j ≡ Some n → slot_of t (j ++ more) ≡ Some m → n ≡ m

-- the least slot that no ticket has
pub record IsLeastFree (slots : List (Ticket × ℕ)) (n : ℕ) : Type 0 where
  pub below : n < most_handles
  pub free : has_slot n slots ≡ false
  pub least : (k : ℕ) → k < n → has_slot k slots ≡ true

-- an addition takes the least slot that is free before it
abbrev pub AdditionTakesLeastSlot : Type 0
AdditionTakesLeastSlot = (j : List Event) (w : Who) (h : HandleId) (t : Ticket) → is_legal (then j w (what.Added h t)) ≡ true
    → IsSomeAnd (slot_of t (then j w (what.Added h t))) (IsLeastFree (slots j))

-- whether a receipt fits depends on the events before its cut alone
abbrev pub FitsByItsCut : Type 0
FitsByItsCut = (opening : Opening) (w : Who) (earlier : List Receipt) (r : Receipt) (j k : List Event) → take r.cut j ≡ take r.cut k
    → Fits opening w earlier r j → Fits opening w earlier r k

-- where cuts rise along the receipts with an event, from a place in the journal on, an event of the maker is before each, and they are as
-- many as the maker's events after that place, then these are those events, each once, in order
abbrev pub EachOnceByCount : Type 0
EachOnceByCount = (from : ℕ) (w : Who) (mine : List Receipt) (j : List Event) → CutsRise from (with_events mine) → AllByRecursion (IsOfMaker w j) (with_events mine)
    → length (with_events mine) ≡ made_by w (drop from j) → events_by w (drop from j) ≡ events_of (with_events mine) j

-- a call that was answered after j, and left k, has a receipt that fits k with the cut at its end; a poll where it might return
abbrev pub AnswersFit : Type 0
AnswersFit = (opening : Opening) (w : Who) (earlier : List Receipt) (call : Call) (reply : Reply) (j k : List Event) → Answers opening w call j reply k
    → (is_poll call ≡ true → is_ready (mark opening.from earlier) k ≡ true) → Fits opening w earlier (record { cut = length k; call = call; reply = reply }) k

-- the table takes in what may follow, and is then the table with that event after the others
abbrev pub TableFollows : Type 0
TableFollows = (j : List Event) (t : TableView) (e : Event) → IsTableOf j t → HasCounters t.makers → may_follow j e.what ≡ true → length j < 4294967295
    → IsTableOf (j ++ e ∷ []) (table_after t e) × HasCounters (table_after t e).makers

-- k is j, or j and one event more, which the maker made
abbrev pub HasAtMostOneMore : Who → List Event → List Event → Type 0
HasAtMostOneMore w j k = (k ≡ j) ⊎ ((e : What) × (k ≡ then j w e))

-- a call leaves the journal, or adds one event, the caller's
abbrev pub CallAddsAtMostOne : Type 0
CallAddsAtMostOne = (opening : Opening) (w : Who) (call : Call) (reply : Reply) (j k : List Event) → Answers opening w call j reply k → HasAtMostOneMore w j k

-- receipts stay placed as the journal grows, where the maker made none of the events that came
abbrev pub PlacedStays : Type 0
PlacedStays = (opening : Opening) (w : Who) (mine : List Receipt) (j k : List Event) → IsPlaced opening w mine j → IsPrefix j k → made_by w k ≡ made_by w j → IsPlaced opening w mine k

-- and a call that is answered after such a journal is placed after them, with its cut at the end of what it left
abbrev pub CallIsPlaced : Type 0
CallIsPlaced = (opening : Opening) (w : Who) (mine : List Receipt) (seen j k : List Event) (call : Call) (reply : Reply) → IsPlaced opening w mine seen → IsPrefix seen j → made_by w j ≡ made_by w seen
    → Answers opening w call j reply k → (is_poll call ≡ true → is_ready (mark opening.from mine) k ≡ true)
    → IsPlaced opening w (mine ++ record { cut = length k; call = call; reply = reply } ∷ []) k

-- what retiring leaves of a legal history: a legal one, with the same additions, running and paused tickets, and messages that
-- wait; each added handle's state is as it was; it is no longer, the same is due, and no greater ticket was given
pub record IsRetired (j k : List Event) : Type 0 where
  pub legal : is_legal k ≡ true
  pub added : added k ≡ added j
  pub running : running k ≡ running j
  pub paused : paused k ≡ paused j
  pub waiting : waiting k ≡ waiting j
  pub states : (h : HandleId) → state_of h k ≡ state_of h j
  pub due : due k ≡ due j
  pub shorter : length k ≤ length j
  pub tickets : beyond k ≤ beyond j

abbrev pub RetiringKeeps : Type 0
RetiringKeeps = (j : List Event) → is_legal j ≡ true → IsRetired j (retire j)

-- before its first call a caller is placed in what was kept
abbrev pub FirstIsPlaced : Type 0
FirstIsPlaced = (opening : Opening) (w : Who) (j : List Event) → opening.from ≡ length j → IsPlaced opening w [] j
