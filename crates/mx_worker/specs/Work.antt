-- What a worker did with its seat.
use Rattle.std.specs.Prelude.{◌≡◌, ◌⊎◌, ℕ, ◌-◌, ◌^◌, min, List, [], ◌∷◌, ◌++◌, All, length, map, filter_map, Option, Some, None, Result, Ok, Err}
use Rattle.mx_types.specs.declared.code.Code.{Code}
use Rattle.mx_types.specs.declared.names.Ticket.{Ticket}
use Rattle.mx_types.specs.declared.call.Call.{Call}
use Rattle.mx_types.specs.declared.call.Call.TheVariants as call
use Rattle.mx_types.specs.declared.call.Receipt.{Receipt}
use Rattle.mx_types.specs.declared.reply.Reply.{Reply}
use Rattle.mx_types.specs.declared.reply.Reply.TheVariants as reply
use Rattle.mx_link.specs.declared.answers.Answer.{Answer}
use Rattle.mx_chain.specs.Chains.{ChainState}
use Rattle.mx_chain.specs.Outcomes.{OutcomeValue, size_of}
use Rattle.mx_journal.specs.declared.replies.FinishReply.{FinishReply}
use Rattle.mx_journal.specs.declared.replies.FinishReply.TheVariants as finish
use Rattle.mx_journal.specs.declared.replies.GiveBackReply.{GiveBackReply}
use Rattle.mx_journal.specs.declared.replies.GiveBackReply.TheVariants as giving
use Rattle.mx_lock.specs.Ties.{TiedClaimed}
use Rattle.mx_board.specs.declared.note.Note.{Note}
use Rattle.mx_board.specs.Progress.{note, word_of}
use Rattle.mx_journal.specs.Slots.{slot_of}
use Rattle.mx_multi.specs.Seats.{SeatView, Later, FindsOther, ClaimsLeast}
use Rattle.mx_gate.specs.Said.{Said}
use Rattle.mx_turn.specs.Workers.{Deed, Held, claims, looks, notes, finishes, Finish, recorded, stale, lacking, unseated, Return, returned, ended_before, unreturned, Worker, starts, IsOver}
use Rattle.mx_turn.specs.Turn.{Runs}
use Rattle.mx_turn.specs.Engines.{EndView, HeldView}
use Rattle.mx_turn.specs.Laws.{claimed_by, recorded_by, stale_by, given_back_by, unseated_by, AreAccounted}

-- the code of an outcome, as in its message
abbrev pub code_of : OutcomeValue → Code
code_of o = o.code

-- the call that hands in the end of a ticket
abbrev pub finish_call : Ticket → OutcomeValue → Call
finish_call t o = call.Finish t (code_of o) (size_of o)

-- the call of a deed, with its reply, where it has a receipt
abbrev pub answered_by : {L : Type 0} → Deed L → Option (Call × Reply)
answered_by (looks t (Some l)) = Some (call.Look t, reply.Look l)
answered_by (finishes t o recorded) = Some (finish_call t o, reply.Recorded)
answered_by (finishes t o stale) = Some (finish_call t o, reply.Stale)
answered_by (finishes t o lacking) = Some (finish_call t o, reply.OutOfMemory)
answered_by _ = None

-- the word that was written by it
abbrev pub noted_by_deed : {L : Type 0} → Deed L → Option Note
noted_by_deed (notes t slot count) = Some (note slot (word_of t count))
noted_by_deed _ = None

-- the transfer that was claimed by it, as it was then held
abbrev pub claimed_whole : {L : Type 0} → Deed L → Option (Held L)
claimed_whole (claims held) = held
claimed_whole _ = None

-- rule worker-seat
-- At some moment of what the seat did, from s to t, this transfer came first in the queue that was found in the lock, under the least ticket.
-- It was claimed there, and held as it lay there, with its deadline, at the slot of its addition.
pub record WasQueued {L : Type 0} (s t : SeatView (ChainState L) OutcomeValue) (h : Held L) : Type 0 where
  pub seat : SeatView (ChainState L) OutcomeValue
  pub before : List Receipt
  pub since : Later s seat before
  pub after : List Receipt
  pub until : Later seat t after
  pub work : ChainState L
  pub claimed : ClaimsLeast code_of size_of seat h.ticket work
  pub same : h.transfer ≡ work
  pub slot : slot_of h.ticket seat.seen ≡ Some h.slot

-- at some moment of what the seat did, from s to t, the journal in the lock didn't begin with what the seat had seen by then
pub record FoundOther {Q : Type 0} (s t : SeatView Q OutcomeValue) : Type 0 where
  pub seat : SeatView Q OutcomeValue
  pub before : List Receipt
  pub since : Later s seat before
  pub after : List Receipt
  pub until : Later seat t after
  pub other : FindsOther code_of size_of seat

-- rule worker-seat: What a worker does in its turns is what its seat does.
--
-- What the seat did, from s to t, is these deeds: its further receipts are those of the calls that were answered, in order; its further
-- claims are what they claimed; likewise what it gave back and the words that it wrote. And nothing was lost for a seat of another handle,
-- unless the journal in the lock was found not to begin with what the seat had seen then. Each transfer that they claimed was queued so.
pub record IsDone {L : Type 0} (s t : SeatView (ChainState L) OutcomeValue) (did : List (Deed L)) : Type 0 where
  pub more : List Receipt
  pub later : Later s t more
  pub answers : map (λ r. (r.call, r.reply)) more ≡ filter_map answered_by did
  pub claims : t.claims ≡ s.claims ++ filter_map claimed_by did
  pub given : t.given ≡ s.given ++ filter_map given_back_by did
  pub noted : t.words.noted ≡ s.words.noted ++ filter_map noted_by_deed did
  pub seated : (filter_map unseated_by did ≡ []) ⊎ FoundOther s t
  pub queued : All (WasQueued s t) (filter_map claimed_whole did)

-- how many they are, held at the greatest number of 32 bits
abbrev pub held_count : List Ticket → ℕ
held_count ts = min (length ts) (2 ^ 32 - 1)

-- rule worker-counts: What a worker counts are the ends of its turns.
--
-- so many ends were recorded by these deeds, so many were stale, and so many transfers went back to the queue
pub record AreCounted {L : Type 0} (did : List (Deed L)) (recorded_count stale_count given_back_count : ℕ) : Type 0 where
  pub recorded_is : recorded_count ≡ held_count (filter_map recorded_by did)
  pub stale_is : stale_count ≡ held_count (filter_map stale_by did)
  pub given_back_is : given_back_count ≡ held_count (filter_map given_back_by did)

-- A worker ran, with this seat and this gate, before and after: turn after turn, until it was told to stop and had nothing in flight. What
-- the seat did is what the worker did in those turns, and what the gate said is what it said there. Each claim came to one end.
pub record WorkerRan {L : Type 0} (history : L → List Answer) (token_of : L → ℕ) (s t : SeatView (ChainState L) OutcomeValue) (was is : List Said) (recorded_count stale_count given_back_count : ℕ) : Type 0 where
  pub last : Worker L
  pub run : Runs history token_of (record (starts s.of.limits.max_connects) { said = was }) last
  pub over : IsOver last
  pub said : is ≡ last.said
  pub done : IsDone s t last.did
  pub accounted : AreAccounted last.did
  pub counted : AreCounted last.did recorded_count stale_count given_back_count

-- what a worker did, and what was counted of it
pub record LogView (L : Type 0) : Type 0 where
  pub did : List (Deed L)
  pub recorded_count : ℕ
  pub stale_count : ℕ
  pub given_back_count : ℕ

-- a worker's seat as it began and as it is, and what was done with it since
pub record TallyView (L Q : Type 0) : Type 0 where
  pub start : SeatView Q OutcomeValue
  pub seat : SeatView Q OutcomeValue
  pub did : List (Deed L)

-- what became of an end, by the answer to its call
abbrev pub finish_of : {C O W : Type 0} → Result (FinishReply C O) W → Finish
finish_of (Ok finish.Recorded) = recorded
finish_of (Ok (finish.Stale _)) = stale
finish_of (Ok (finish.OutOfMemory _ _)) = lacking
finish_of (Err _) = unseated

-- the claim and the outcome that come back with it
abbrev pub handed_back : {C O W : Type 0} → Result (FinishReply C O) W → Option (C × O)
handed_back (Ok (finish.OutOfMemory c o)) = Some (c, o)
handed_back _ = None

-- the end that these are
abbrev pub end_of : TiedClaimed × OutcomeValue → EndView
end_of (c, o) = record { end = record { ticket = c.ticket; outcome = o }; of = c.of }

-- what became of a transfer that was given back, by the answer to its call
abbrev pub return_of : {Q W : Type 0} → Result (GiveBackReply Q) W → Return
return_of (Ok giving.Back) = returned
return_of (Ok (giving.Stale _)) = ended_before
return_of (Err _) = unreturned

-- a claim and its transfer, as they are held
abbrev pub AreHeld : {L : Type 0} → Option (TiedClaimed × ChainState L) → Option (HeldView L) → Type 0
AreHeld (Some (c, work)) (Some h) = (h.held ≡ record { ticket = c.ticket; slot = c.slot; transfer = work }) × (h.of ≡ c.of)
AreHeld None None = Unit {0}
AreHeld _ _ = ⊥

-- none of the counts counts it
pub record IsUncounted {L : Type 0} (d : Deed L) : Type 0 where
  pub unrecorded : filter_map recorded_by (d ∷ []) ≡ []
  pub fresh : filter_map stale_by (d ∷ []) ≡ []
  pub kept : filter_map given_back_by (d ∷ []) ≡ []
