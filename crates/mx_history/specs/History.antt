-- What a multi handle is after a list of events (libcurl-multi(3), curl_multi_add_handle(3), curl_multi_remove_handle(3),
-- curl_multi_info_read(3), curl_multi_get_handles(3), curl_multi_wakeup(3)). Everything is computed from the whole list.
-- In `e ∷ later` the list `later` has the events after e.
use Rattle.std.specs.Prelude.{ℕ, max, ◌+◌, ◌<◌, ◌≤◌, ◌≡◌, ◌==◌, nat_lt, nat_le, Bool, true, false, not, ◌&&◌, ◌||◌, if◌then◌else◌, List, [], ◌∷◌, ◌++◌, length, map, Option, Some, None}
use Rattle.std.specs.List.{AllByRecursion, filter, list_any, count_by, sum_by}
use Rattle.std.specs.Option.{option_or, option_to_list}
use Rattle.mx_types.specs.Limits.{most_history, most_handles, most_seats}
use Rattle.mx_types.specs.declared.code.Code.{Code}
use Rattle.mx_types.specs.declared.names.HandleId.{HandleId}
use Rattle.mx_types.specs.declared.names.Ticket.{Ticket}
use Rattle.mx_types.specs.declared.event.Who.{Who}
use Rattle.mx_types.specs.declared.event.Who.TheVariants as maker
use Rattle.mx_types.specs.declared.event.What.{What}
use Rattle.mx_types.specs.declared.event.What.TheVariants as what
use Rattle.mx_types.specs.declared.event.Event.{Event}
use Rattle.mx_history.specs.declared.row.Phase.{Phase}
use Rattle.mx_history.specs.declared.row.Phase.TheVariants as phase

-- 1. What one event says.

-- a handle that was added, with the ticket of its addition
pub record Addition : Type 0 where
  pub handle : HandleId
  pub ticket : Ticket

-- the message of a transfer's end: its ticket, its code, and the length of its body
pub record Message : Type 0 where
  pub ticket : Ticket
  pub code : Code
  pub size : ℕ

abbrev pub same_handle : HandleId → HandleId → Bool
same_handle h k = h.0 == k.0

abbrev pub same_ticket : Ticket → Ticket → Bool
same_ticket t u = t.0 == u.0

-- the addition that was made, the message that came
abbrev pub addition_of : What → Option Addition
addition_of (what.Added h t) = Some (record { handle = h; ticket = t })
addition_of _ = None

abbrev pub message_of : What → Option Message
message_of (what.Done t code n) = Some (record { ticket = t; code = code; size = n })
message_of _ = None

-- it removes the ticket's addition, ends its transfer, reads its message, pauses it, resumes it
abbrev pub removes : Ticket → What → Bool
removes t (what.Removed _ u) = same_ticket t u
removes t _ = false

abbrev pub ends : Ticket → What → Bool
ends t (what.Done u _ _) = same_ticket t u
ends t _ = false

abbrev pub reads : Ticket → What → Bool
reads t (what.Read u) = same_ticket t u
reads t _ = false

abbrev pub pauses : Ticket → What → Bool
pauses t (what.Paused u) = same_ticket t u
pauses t _ = false

abbrev pub resumes : Ticket → What → Bool
resumes t (what.Resumed u) = same_ticket t u
resumes t _ = false

-- a poll that waits is to return
abbrev pub wakes : What → Bool
wakes what.Wake = true
wakes (what.Done _ _ _) = true
wakes _ = false

-- an event of the list passes
abbrev pub occurs : (What → Bool) → List Event → Bool
occurs test j = list_any (λ e. test e.what) j

-- 2. What holds after a list of events.

-- what the events gave and no later event took away, in order
abbrev pub standing : {X : Type 0} → (What → Option X) → (X → What → Bool) → List Event → List X
standing gives takes [] = []
standing gives takes (e ∷ later) =
    filter (λ x. not (occurs (takes x) later)) (option_to_list (gives e.what)) ++ standing gives takes later

-- rule core-done-stays-added: A handle that is done stays added until it is removed; a removal drops its unread message.
--
-- the additions with no later removal
abbrev pub added : List Event → List Addition
added j = standing addition_of (λ a. removes a.ticket) j

-- rule core-messages: Messages come first in, first out, at most one for an addition.
--
-- the messages with no later reading or removal
abbrev pub waiting : List Event → List Message
waiting j = standing message_of (λ m e. reads m.ticket e || removes m.ticket e) j

-- the tickets that are added and have not ended
abbrev pub running : List Event → List Ticket
running j = filter (λ t. not (occurs (ends t) j)) (map (λ a. a.ticket) (added j))

-- the last pause or resumption of the ticket is a pause
abbrev pub last_is_pause : Ticket → List Event → Bool
last_is_pause t [] = false
last_is_pause t (e ∷ later) =
    (if occurs (λ x. pauses t x || resumes t x) later then last_is_pause t later else pauses t e.what)

-- those that run and were paused last
abbrev pub paused : List Event → List Ticket
paused j = filter (λ t. last_is_pause t j) (running j)

-- one more than the ticket that an addition was given; 0 for what adds nothing
abbrev pub past : What → ℕ
past (what.Added _ t) = t.0 + 1
past _ = 0

-- one more than the greatest ticket that an addition was given, or 0 where there is none
abbrev pub beyond : List Event → ℕ
beyond [] = 0
beyond (e ∷ later) = max (past e.what) (beyond later)

-- 3. Legal histories.

abbrev pub has_handle : HandleId → List Addition → Bool
has_handle h xs = list_any (λ a. same_handle h a.handle) xs

abbrev pub has_ticket : Ticket → List Ticket → Bool
has_ticket t xs = list_any (same_ticket t) xs

-- the ticket is that of the first message
abbrev pub is_first : Ticket → List Message → Bool
is_first t [] = false
is_first t (m ∷ _) = same_ticket t m.ticket

-- in order of the tickets, each once
abbrev pub IsInOrder : List Ticket → Type 0
IsInOrder [] = Unit {0}
IsInOrder (t ∷ ts) = AllByRecursion (λ u. t.0 < u.0) ts × IsInOrder ts

-- tickets only rise: it is greater than each that an addition was given
abbrev pub is_new_ticket : Ticket → List Event → Bool
is_new_ticket t f = nat_le (beyond f) t.0

-- the event is allowed after the events f
abbrev pub may_follow : List Event → What → Bool
may_follow f (what.Added h t) = not (has_handle h (added f)) && nat_lt (length (added f)) most_handles && is_new_ticket t f
may_follow f (what.Removed h t) = list_any (λ a. same_handle h a.handle && same_ticket t a.ticket) (added f)
may_follow f (what.Done t _ _) = has_ticket t (running f)
may_follow f (what.Read t) = is_first t (waiting f)
may_follow f (what.Paused t) = has_ticket t (running f) && not (has_ticket t (paused f))
may_follow f (what.Resumed t) = has_ticket t (paused f)
may_follow f what.Wake = true

-- each event of j may follow f and those of j before it
abbrev pub is_legal_after : List Event → List Event → Bool
is_legal_after f [] = true
is_legal_after f (e ∷ j) = may_follow f e.what && is_legal_after (f ++ e ∷ []) j

abbrev pub is_legal : List Event → Bool
is_legal j = is_legal_after [] j

-- 4. Room: each addition has a place kept for its end, its reading and its removal.

-- what a multi handle is opened with, and what retiring changes of it: how many events its history may have; the ticket from
-- which on additions are numbered; and how many events of its history were kept at the last retiring
pub record Opening : Type 0 where
  pub history : ℕ
  pub first : ℕ
  pub from : ℕ

abbrev pub missing : (What → Bool) → List Event → ℕ
missing test j = (if occurs test j then 0 else 1)

abbrev pub due_of : Ticket → List Event → ℕ
due_of t j = missing (ends t) j + missing (reads t) j + missing (removes t) j

abbrev pub due : List Event → ℕ
due j = sum_by (λ a. due_of a.ticket j) (added j)

-- rule core-room: Pauses and wakeups take no place that a completion needs.
abbrev pub has_room : ℕ → List Event → ℕ → Bool
has_room history j k = nat_le (length j + due j + k) history

-- the room that an event needs beside what is due
abbrev pub needs : What → ℕ
needs (what.Added _ _) = 4
needs (what.Paused _) = 1
needs (what.Resumed _) = 1
needs what.Wake = 1
needs _ = 0

-- legal, with room for all that is due
pub record HasRoomForDue (history : ℕ) (j : List Event) : Type 0 where
  pub legal : is_legal j ≡ true
  pub room : length j + due j ≤ history
  pub limit : history ≤ most_history

-- 5. The phase of one addition, and where a poll may return.

-- the code that the ticket's transfer ended with, and whether its message was read after that
abbrev pub end_by : Ticket → What → List Event → Option (Code × Bool)
end_by t (what.Done u code _) later = (if same_ticket t u then Some (code, occurs (reads t) later) else None)
end_by t _ later = None

abbrev pub end_of : Ticket → List Event → Option (Code × Bool)
end_of t [] = None
end_of t (e ∷ later) = option_or (end_by t e.what later) (end_of t later)

abbrev pub phase_by : Option (Code × Bool) → Bool → Phase
phase_by None held = (if held then phase.Paused else phase.Running)
phase_by (Some x) held = (if x.1 then phase.Read x.0 else phase.Done x.0)

abbrev pub phase_of : Ticket → List Event → Phase
phase_of t j = phase_by (end_of t j) (last_is_pause t j)

-- 6. Makers.

-- seats and workers are numbered from 0 to 15
abbrev pub is_maker : Who → Bool
is_maker (maker.Seat n) = nat_lt n most_seats
is_maker (maker.Worker n) = nat_lt n most_seats

abbrev pub same_maker : Who → Who → Bool
same_maker (maker.Seat m) (maker.Seat n) = m == n
same_maker (maker.Worker m) (maker.Worker n) = m == n
same_maker _ _ = false

-- how many of the events the maker made
abbrev pub made_by : Who → List Event → ℕ
made_by w j = count_by (λ e. same_maker e.who w) j

-- 7. Retiring.

-- the ticket that the event is of; a Wake is of none
abbrev pub ticket_in : What → Option Ticket
ticket_in (what.Added _ t) = Some t
ticket_in (what.Removed _ t) = Some t
ticket_in (what.Done t _ _) = Some t
ticket_in (what.Read t) = Some t
ticket_in (what.Paused t) = Some t
ticket_in (what.Resumed t) = Some t
ticket_in what.Wake = None

-- the event is of a ticket that passes
abbrev pub is_of_such : (Ticket → Bool) → What → Bool
is_of_such p e = elim (ticket_in e) [ None ↦ false | Some t ↦ p t ]

-- the events of such tickets, in order
abbrev pub only_of : (Ticket → Bool) → List Event → List Event
only_of p j = filter (λ e. is_of_such p e.what) j

-- rule core-retire-keeps: Retiring keeps the events of the handles that are added, their messages with them, and no others.
--
-- what retiring keeps: the events of the tickets that are added, in order
abbrev pub retire : List Event → List Event
retire j = only_of (λ t. has_ticket t (map (λ a. a.ticket) (added j))) j
