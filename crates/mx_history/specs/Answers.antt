-- What each call is answered after a list of events, and the event that it makes there.
use Rattle.std.specs.Prelude.{ℕ, max, nat_le, nat_lt, Bool, not, if◌then◌else◌, List, [], ◌∷◌, ◌++◌, length, map, drop, Option, Some, None, ◌≡◌}
use Rattle.std.specs.List.{find}
use Rattle.std.specs.Option.{unwrap_or, option_map, option_to_list, IsSome}
use Rattle.mx_types.specs.Limits.{greatest_ticket, most_handles}
use Rattle.mx_types.specs.declared.names.HandleId.{HandleId}
use Rattle.mx_types.specs.declared.names.Ticket.{Ticket}
use Rattle.mx_types.specs.declared.event.Who.{Who}
use Rattle.mx_types.specs.declared.event.What.{What}
use Rattle.mx_types.specs.declared.event.What.TheVariants as what
use Rattle.mx_types.specs.declared.event.Event.{Event}
use Rattle.mx_types.specs.declared.call.Call.{Call}
use Rattle.mx_types.specs.declared.call.Call.TheVariants as call
use Rattle.mx_types.specs.declared.reply.Reply.{Reply}
use Rattle.mx_types.specs.declared.reply.Reply.TheVariants as reply
use Rattle.mx_types.specs.declared.reply.Look.{Look}
use Rattle.mx_types.specs.declared.reply.Look.TheVariants as look
use Rattle.mx_types.specs.declared.reply.State.{State}
use Rattle.mx_types.specs.declared.reply.State.TheVariants as state
use Rattle.mx_history.specs.declared.row.Phase.{Phase}
use Rattle.mx_history.specs.declared.row.Phase.TheVariants as phase
use Rattle.mx_history.specs.History.{Message, Opening, same_handle, same_ticket, occurs, wakes, added, waiting, running, paused, beyond, has_ticket, has_room, phase_of}

-- a reply, and the event that comes with it
abbrev pub Answer : Type 0
Answer = Reply × Option What

abbrev pub only : Reply → Answer
only r = (r, None)

-- the ticket under which the handle is added; the handle that is added under the ticket
abbrev pub ticket_of : HandleId → List Event → Option Ticket
ticket_of h j = option_map (λ a. a.ticket) (find (λ a. same_handle h a.handle) (added j))

abbrev pub handle_of : Ticket → List Event → Option HandleId
handle_of t j = option_map (λ a. a.handle) (find (λ a. same_ticket t a.ticket) (added j))

-- the state of the addition
abbrev pub state_at : Ticket → Phase → State
state_at t phase.Running = state.Running t
state_at t phase.Paused = state.Paused t
state_at t (phase.Done code) = state.Done t code
state_at t (phase.Read code) = state.Read t code

abbrev pub state_of : HandleId → List Event → State
state_of h j = elim (ticket_of h j) [ None ↦ state.NotAdded | Some t ↦ state_at t (phase_of t j) ]

-- what a worker sees of a ticket
abbrev pub look_of : Ticket → List Event → Look
look_of t j =
    (if not (has_ticket t (running j)) then look.Gone
    else if has_ticket t (paused j) then look.Paused
    else look.Go)

-- rule core-tickets: Tickets only rise, over history that was retired, too; the greatest is 4,294,967,294, and none is given after it.
--
-- the next addition's ticket: greater than each that was given, in older history too
abbrev pub next_ticket : Opening → List Event → Ticket
next_ticket opening j = record { 0 = max opening.first (beyond j) }

-- rule core-tickets
-- the greatest ticket, 4,294,967,294, was given
abbrev pub are_spent : Opening → List Event → Bool
are_spent opening j = nat_lt greatest_ticket (next_ticket opening j).0

-- rule core-add-refusals: `add` refuses in this order: the handle is added already; 256 handles are added; no ticket is left; the history
-- has no room for the addition and the three events that it may still bring; the log is out of memory.
abbrev pub add_answer : Opening → List Event → HandleId → Answer
add_answer opening j h =
    elim (ticket_of h j) [
      | Some _ ↦ only reply.AddedAlready
      | None ↦
          (if nat_le most_handles (length (added j)) then only reply.TableFull
          else if are_spent opening j then only reply.TicketsSpent
          else if has_room opening.history j 4 then (reply.Added (next_ticket opening j), Some (what.Added h (next_ticket opening j)))
          else only reply.HistoryFull)
    ]

abbrev pub remove_answer : List Event → HandleId → Answer
remove_answer j h =
    elim (ticket_of h j) [
      | None ↦ only reply.RemoveNotAdded
      | Some t ↦ (reply.Removed, Some (what.Removed h t))
    ]

-- a pause or a resumption, which changes nothing where `idle`
abbrev pub pausing_answer : Opening → List Event → Ticket → Bool → What → Answer
pausing_answer opening j t idle event =
    (if not (has_ticket t (running j)) then only reply.NotRunning
    else if idle then only reply.NoChange
    else if has_room opening.history j 1 then (reply.Changed, Some event)
    else only reply.HistoryFull)

abbrev pub pause_answer : Opening → List Event → HandleId → Answer
pause_answer opening j h =
    elim (ticket_of h j) [
      | None ↦ only reply.NotAdded
      | Some t ↦ pausing_answer opening j t (has_ticket t (paused j)) (what.Paused t)
    ]

abbrev pub unpause_answer : Opening → List Event → HandleId → Answer
unpause_answer opening j h =
    elim (ticket_of h j) [
      | None ↦ only reply.NotAdded
      | Some t ↦ pausing_answer opening j t (not (has_ticket t (paused j))) (what.Resumed t)
    ]

-- a message has a handle wherever the list is legal
abbrev pub read_answer : List Event → List Message → Answer
read_answer j [] = only reply.Empty
read_answer j (m ∷ ms) =
    (reply.Message (unwrap_or (handle_of m.ticket j) (record { 0 = 0 })) m.ticket m.code m.size (length ms), Some (what.Read m.ticket))

-- rule core-stale-completion: A completion is recorded by ticket: one of a removed addition is stale, and changes nothing.
abbrev pub answer : Opening → List Event → Call → Answer
answer opening j (call.Add h) = add_answer opening j h
answer opening j (call.Remove h) = remove_answer j h
answer opening j (call.Pause h) = pause_answer opening j h
answer opening j (call.Unpause h) = unpause_answer opening j h
answer opening j call.InfoRead = read_answer j (waiting j)
answer opening j call.Wakeup = (if has_room opening.history j 1 then (reply.Ok, Some what.Wake) else only reply.Failure)
answer opening j call.Poll = only reply.Woken
answer opening j call.Handles = only (reply.Handles (map (λ a. a.handle) (added j)))
answer opening j call.Running = only (reply.Running (length (running j)))
answer opening j (call.State h) = only (reply.State (state_of h j))
answer opening j (call.Finish t code n) =
    (if has_ticket t (running j) then (reply.Recorded, Some (what.Done t code n)) else only reply.Stale)
answer opening j (call.Look t) = only (reply.Look (look_of t j))

-- rule core-poll: A poll may return where a wakeup or a completion is in the journal after its mark. Its caller then moves the mark to the
-- journal's end, so that several wakeups count as one.
abbrev pub is_ready : ℕ → List Event → Bool
is_ready mark j = occurs wakes (drop mark j)

-- rule multi-out-of-memory: A call that is refused memory makes no event. Made again with memory, it answers what it would have answered.
--
-- The call was answered after j, and left k: with its event, made by the caller; or with no event; or its event was refused memory.
abbrev pub Answers : Opening → Who → Call → List Event → Reply → List Event → Type 0
Answers opening who call j reply.OutOfMemory k = IsSome (answer opening j call).1 × (k ≡ j)
Answers opening who call j r k =
    (r ≡ (answer opening j call).0) × (k ≡ j ++ map (λ e. record { who = who; what = e }) (option_to_list (answer opening j call).1))
