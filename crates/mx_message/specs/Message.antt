-- What is known of a message.
use Rattle.std.specs.Prelude.{◌≡◌, ◌⊎◌, ℕ, ◌≤◌, true, false, not, All, List, ◌∷◌, ◌++◌, map, length, None}
use Rattle.std.specs.List.{filter}
use Rattle.mx_types.specs.declared.code.Code.TheVariants as code
use Rattle.mx_types.specs.declared.names.HandleId.{HandleId}
use Rattle.mx_types.specs.declared.names.Ticket.{Ticket}
use Rattle.mx_types.specs.declared.event.Who.{Who}
use Rattle.mx_types.specs.declared.event.What.TheVariants as what
use Rattle.mx_types.specs.declared.event.Event.{Event}
use Rattle.mx_types.specs.declared.call.Call.TheVariants as call
use Rattle.mx_types.specs.declared.call.Receipt.{Receipt}
use Rattle.mx_types.specs.declared.reply.Reply.{Reply}
use Rattle.mx_types.specs.declared.reply.Reply.TheVariants as reply
use Rattle.mx_types.specs.declared.origin.Origin.{Origin}
use Rattle.mx_request.specs.Request.{request_origin}
use Rattle.mx_body.specs.Parts.{joined}
use Rattle.mx_link.specs.Answers.{given}
use Rattle.mx_exchange.specs.Hops.{HasBody, HasContent}
use Rattle.mx_chain.specs.Outcomes.{OutcomeValue, IsEnd, IsOutcome, size_of}
use Rattle.mx_journal.specs.History.{ends, is_legal, occurs, reads, removes, waiting}
use Rattle.mx_journal.specs.Laws.{count_of_events, done_tickets, is_of, is_removed_unread, read_tickets}
use Rattle.mx_lock.specs.Ties.{Has, tie}
use Rattle.mx_multi.specs.Seats.{Later, SeatView, Stands}

-- the answer of a reading that hands out this outcome
abbrev pub answer_of : HandleId → Ticket → OutcomeValue → ℕ → Reply
answer_of h t o left = reply.Message h t o.code (length (joined o.wire o.parts)) left

-- The history is legal. In it the ticket has at most one end, one reading and one removal, and no event after its removal; and the messages
-- are read, and wait, in the order of the ends, without those that were removed unread.
pub record IsOrderly (j : List Event) (t : Ticket) : Type 0 where
  pub legal : is_legal j ≡ true
  pub ended : count_of_events (ends t) j ≤ 1
  pub read : count_of_events (reads t) j ≤ 1
  pub removed : count_of_events (removes t) j ≤ 1
  pub none_after : (f later : List Event) (w : Who) (h : HandleId) → j ≡ f ++ record { who = w; what = what.Removed h t } ∷ later → occurs (is_of t) later ≡ false
  pub in_order : read_tickets j ++ map (λ m. m.ticket) (waiting j) ≡ filter (λ u. not (is_removed_unread u j)) (done_tickets j)

-- Its bytes are all that the connection of its last hop gave, and the first of them are a response by RFC 9112 to the last request of the
-- chain. Its parts are those of that hop, and, joined, they are that response's content.
pub record CarriesBody (o : OutcomeValue) : Type 0 where
  pub within : given o.last.answers ≡ o.wire
  pub content : HasContent o.last
  pub same : joined o.wire o.parts ≡ joined o.last.wire o.last.parts

-- Its bytes are all that the connection of its last hop gave, and the first of them are a response by RFC 9112 to the last request of the
-- chain. The bytes at the parts of that hop, joined, and then what was handed on are that response's content: one of the two is empty. Where
-- the response is held it carries the body.
pub record DeliversBody (o : OutcomeValue) : Type 0 where
  pub within : given o.last.answers ≡ o.wire
  pub body : HasBody o.last
  pub handed : o.content ≡ o.last.content
  pub held : o.last.limit ≡ None → CarriesBody o

-- a call by which a seat waits for a message: a reading that found none, or a poll
abbrev pub IsWait : Receipt → Type 0
IsWait r = ((r.call ≡ call.InfoRead) × (r.reply ≡ reply.Empty)) ⊎ ((r.call ≡ call.Poll) × (r.reply ≡ reply.Woken))

-- calls that wait for a message were answered, and no others: readings that found none, and polls
pub record Waited {Q : Type 0} (s t : SeatView Q OutcomeValue) : Type 0 where
  pub more : List Receipt
  pub later : Later s t more
  pub waits : All IsWait more

-- no message was read: calls that wait for one were answered, and then perhaps a reading that was refused memory
pub record Unread {Q : Type 0} (s t : SeatView Q OutcomeValue) : Type 0 where
  pub at : SeatView Q OutcomeValue
  pub waited : Waited s at
  pub last : (t ≡ at) ⊎ Stands at t call.InfoRead reply.OutOfMemory

-- the answer of a reading that hands out what a transfer ended with, whatever became of its content
abbrev pub answer_of_end : HandleId → Ticket → OutcomeValue → ℕ → Reply
answer_of_end h t o left = reply.Message h t o.code (size_of o) left

-- the seat read this message, whose outcome is true, and whose first request is the one that was added under the ticket
pub record IsRead {Q : Type 0} (s t : SeatView Q OutcomeValue) (h : HandleId) (ticket : Ticket) (o : OutcomeValue) (left : ℕ) : Type 0 where
  pub stands : Stands s t call.InfoRead (answer_of_end h ticket o left)
  pub end : IsEnd o
  pub body : o.code ≡ code.Ok → DeliversBody o
  pub of_addition : Has t.ties (tie ticket (request_origin o.request))

-- The next message, whatever became of the content of its response, is a reading of the one legal history, of the request that was added under
-- its ticket, and with code 0 its body was held or handed on.
pub record IsNextEnd {Q : Type 0} (s t : SeatView Q OutcomeValue) (h : HandleId) (ticket : Ticket) (o : OutcomeValue) (left : ℕ) : Type 0 where
  -- the calls that waited for it, readings that found none and polls, have receipts after those of the seat, and then comes the reading
  pub at : SeatView Q OutcomeValue
  pub waited : Waited s at
  pub stands : Stands at t call.InfoRead (answer_of_end h ticket o left)
  -- at most one for an addition, none after its removal, first in, first out
  pub orderly : IsOrderly t.seen ticket
  -- its hops are a chain, from its first request on, and each ended as its link answered
  pub end : IsEnd o
  pub body : o.code ≡ code.Ok → DeliversBody o
  -- the first request is the one that was added under its ticket: the one that the seat was told, if it was
  pub of_addition : Has t.ties (tie ticket (request_origin o.request))
  pub as_told : (origin : Origin) → Has s.ties (tie ticket origin) → request_origin o.request ≡ origin

-- rule multi-next-message: The next message is a reading of the one legal history, of the request that was added under its ticket, and with
-- code 0 it has its body.
pub record IsNextMessage {Q : Type 0} (s t : SeatView Q OutcomeValue) (h : HandleId) (ticket : Ticket) (o : OutcomeValue) (left : ℕ) : Type 0 where
  -- the calls that waited for it, readings that found none and polls, have receipts after those of the seat, and then comes the reading
  pub at : SeatView Q OutcomeValue
  pub waited : Waited s at
  pub stands : Stands at t call.InfoRead (answer_of h ticket o left)
  -- at most one for an addition, none after its removal, first in, first out
  pub orderly : IsOrderly t.seen ticket
  -- its hops are a chain, from its first request on, and each ended as its link answered; with code OK it carries the body of the response
  -- to the last request of the chain
  pub outcome : IsOutcome o
  pub body : o.code ≡ code.Ok → CarriesBody o
  -- the first request is the one that was added under its ticket: the one that the seat was told, if it was
  pub of_addition : Has t.ties (tie ticket (request_origin o.request))
  pub as_told : (origin : Origin) → Has s.ties (tie ticket origin) → request_origin o.request ≡ origin
