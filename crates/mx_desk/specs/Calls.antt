-- The calls of a desk in the histories of its seats.
use Rattle.std.specs.Prelude.{◌≡◌, ◌⊎◌, ℕ, Bool, true, false, List, Option, None, MatchOption, Result, Ok}
use Rattle.mx_types.specs.declared.code.Code.{Code}
use Rattle.mx_types.specs.declared.names.HandleId.{HandleId}
use Rattle.mx_types.specs.declared.names.Ticket.{Ticket}
use Rattle.mx_types.specs.declared.call.Call.TheVariants as call
use Rattle.mx_types.specs.declared.reply.Reply.{Reply}
use Rattle.mx_types.specs.declared.reply.Reply.TheVariants as reply
use Rattle.mx_chain.specs.Outcomes.{OutcomeValue, size_of}
use Rattle.mx_journal.specs.declared.replies.AddReply.{AddReply}
use Rattle.mx_journal.specs.declared.replies.AddReply.TheVariants as add
use Rattle.mx_multi.specs.Seats.{FindsOther, SeatView, Stands}
use Rattle.mx_message.specs.Message.{IsNextEnd, Waited}
use Rattle.mx_desk.specs.Ties.{SeatsView}

-- the handle of a number
abbrev pub handle_at : ℕ → HandleId
handle_at n = record { 0 = n }

-- the code of an outcome, as in its message
abbrev pub code_of : OutcomeValue → Code
code_of o = o.code

-- an addition was refused for another reason than memory: by the multi handle, or as the seat isn't one of its
abbrev pub is_refusal : {Q W : Type 0} → Result (AddReply Q) W → Bool
is_refusal (Ok (add.Added _)) = false
is_refusal (Ok (add.OutOfMemory _)) = false
is_refusal _ = true

-- the multi handle takes no addition under the handle: it is added, as many handles are added as can be, no ticket is left, or its history
-- is full
abbrev pub takes_none : Reply → Bool
takes_none reply.AddedAlready = true
takes_none reply.TableFull = true
takes_none reply.TicketsSpent = true
takes_none reply.HistoryFull = true
takes_none _ = false

-- a seat was not answered: the journal in the lock didn't begin with what it had seen
pub record IsUnanswered {Q : Type 0} (s t : SeatView Q OutcomeValue) : Type 0 where
  pub same : t ≡ s
  pub other : FindsOther code_of size_of s

-- an addition was refused at a seat
abbrev pub IsRefused : {Q : Type 0} → HandleId → SeatView Q OutcomeValue → SeatView Q OutcomeValue → Type 0
IsRefused h s t = ((r : Reply) × (takes_none r ≡ true) × Stands s t (call.Add h) r) ⊎ IsUnanswered s t

-- a handle isn't added any more: it was removed, or wasn't added, unless the seat was not answered
abbrev pub IsFreed : {Q : Type 0} → HandleId → SeatView Q OutcomeValue → SeatView Q OutcomeValue → Type 0
IsFreed h s t = (Stands s t (call.Remove h) reply.Removed ⊎ Stands s t (call.Remove h) reply.RemoveNotAdded) ⊎ IsUnanswered s t

-- the next message of a seat is of this handle and this ticket, with this outcome
abbrev pub ReadsMessage : {Q : Type 0} → HandleId → Ticket → OutcomeValue → SeatView Q OutcomeValue → SeatView Q OutcomeValue → Type 0
ReadsMessage h ticket o s t = (left : ℕ) × IsNextEnd s t h ticket o left

-- it is, and then the handle was removed
pub record ReadsEnd {Q : Type 0} (h : HandleId) (ticket : Ticket) (o : OutcomeValue) (s t : SeatView Q OutcomeValue) : Type 0 where
  pub at : SeatView Q OutcomeValue
  pub message : ReadsMessage h ticket o s at
  pub freed : IsFreed h at t

-- this was done at the seat that came last, and the other one is as it was
abbrev pub AtLast : {Q : Type 0} → (SeatView Q OutcomeValue → SeatView Q OutcomeValue → Type 0) → SeatsView Q → SeatsView Q → Type 0
AtLast did old new =
    MatchOption old.beside ((new.beside ≡ None) × did old.first new.first) (λ s. (new.first ≡ old.first) × MatchOption new.beside ⊥ (λ t. did s t))

-- this was done at the one or the other seat; and where it was at the one beside the first one, the first one may have waited before
abbrev pub AtSeat : {Q : Type 0} → (SeatView Q OutcomeValue → SeatView Q OutcomeValue → Type 0) → Bool → SeatsView Q → SeatsView Q → Type 0
AtSeat did false old new = did old.first new.first × (new.beside ≡ old.beside)
AtSeat did true old new = Waited old.first new.first × MatchOption old.beside ⊥ (λ s. MatchOption new.beside ⊥ (λ t. did s t))

-- a handle was removed at the one or the other seat
abbrev pub FreesAt : {Q : Type 0} → HandleId → Bool → SeatsView Q → SeatsView Q → Type 0
FreesAt h false old new = IsFreed h old.first new.first × (new.beside ≡ old.beside)
FreesAt h true old new = MatchOption old.beside (Unit {0}) (λ s. (new.first ≡ old.first) × MatchOption new.beside ⊥ (λ t. IsFreed h s t))

-- the seats have waited for a message
pub record Wait {Q : Type 0} (old new : SeatsView Q) : Type 0 where
  pub first : Waited old.first new.first
  pub beside : MatchOption old.beside (new.beside ≡ None) (λ s. MatchOption new.beside ⊥ (λ t. Waited s t))
