-- The reply of a call's answer.
use Rattle.std.specs.Prelude.{ℕ, ◌<◌, ◌≡◌, length, nat_lt, slice_set, if◌then◌else◌, Bool, true, false, List, [], ◌∷◌, ◌++◌, Option, Some, None}
use Rattle.mx_types.specs.declared.code.Code.{Code}
use Rattle.mx_types.specs.declared.names.HandleId.{HandleId}
use Rattle.mx_types.specs.declared.call.Call.{Call}
use Rattle.mx_types.specs.declared.call.Call.TheVariants as call
use Rattle.mx_types.specs.declared.event.What.{What}
use Rattle.mx_types.specs.declared.event.What.TheVariants as what
use Rattle.mx_journal.specs.declared.replies.InfoReply.{InfoReply}
use Rattle.mx_journal.specs.declared.replies.InfoReply.TheVariants as info
use Rattle.mx_journal.specs.declared.replies.FinishReply.{FinishReply}
use Rattle.mx_journal.specs.declared.replies.FinishReply.TheVariants as finish
use Rattle.mx_journal.specs.Core.{Core, queued, retired}
use Rattle.mx_history.specs.Answers.{Answer, only}
use Rattle.mx_history.specs.History.{IsInOrder}
use Rattle.mx_journal.specs.declared.replies.GiveBackReply.{GiveBackReply}
use Rattle.mx_journal.specs.declared.replies.GiveBackReply.TheVariants as giving
use Rattle.mx_types.specs.declared.names.Ticket.{Ticket}
use Rattle.mx_types.specs.declared.reply.Reply.{Reply}
use Rattle.mx_types.specs.declared.reply.Reply.TheVariants as reply
use Rattle.mx_types.specs.declared.origin.Origin.{Origin}
use Rattle.mx_journal.specs.declared.replies.AddReply.{AddReply}
use Rattle.mx_journal.specs.declared.replies.AddReply.TheVariants as add
use Rattle.mx_journal.specs.declared.replies.RemoveReply.{RemoveReply}
use Rattle.mx_journal.specs.declared.replies.RemoveReply.TheVariants as remove
use Rattle.mx_journal.specs.declared.replies.PauseReply.{PauseReply}
use Rattle.mx_journal.specs.declared.replies.PauseReply.TheVariants as pausing
use Rattle.mx_journal.specs.declared.replies.RetireReply.{RetireReply}
use Rattle.mx_journal.specs.declared.replies.RetireReply.TheVariants as retiring
use Rattle.mx_journal.specs.declared.replies.WakeupReply.{WakeupReply}
use Rattle.mx_journal.specs.declared.replies.WakeupReply.TheVariants as wakeup

abbrev pub reply_of_add : {Q : Type 0} → AddReply Q → Reply
reply_of_add (add.Added t) = reply.Added t
reply_of_add (add.AddedAlready _) = reply.AddedAlready
reply_of_add (add.TableFull _) = reply.TableFull
reply_of_add (add.TicketsSpent _) = reply.TicketsSpent
reply_of_add (add.HistoryFull _) = reply.HistoryFull
reply_of_add (add.OutOfMemory _) = reply.OutOfMemory

-- the queue after an addition: its work comes last
abbrev pub queue_added : {Q : Type 0} → AddReply Q → List (Ticket × Q) → Q → List (Ticket × Q)
queue_added (add.Added t) queue work = queue ++ (t, work) ∷ []
queue_added _ queue work = queue

-- the origins after an addition: its work's comes last
abbrev pub origins_added : {Q : Type 0} → AddReply Q → List Origin → Origin → List Origin
origins_added (add.Added t) origins origin = origins ++ origin ∷ []
origins_added _ origins origin = origins

-- what a refused addition hands back
abbrev pub handed_back : {Q : Type 0} → AddReply Q → Option Q
handed_back (add.Added t) = None
handed_back (add.AddedAlready work) = Some work
handed_back (add.TableFull work) = Some work
handed_back (add.TicketsSpent work) = Some work
handed_back (add.HistoryFull work) = Some work
handed_back (add.OutOfMemory work) = Some work

abbrev pub work_back : {Q : Type 0} → AddReply Q → Q → Option Q
work_back (add.Added t) work = None
work_back _ work = Some work

abbrev pub reply_of_remove : RemoveReply → Reply
reply_of_remove remove.Removed = reply.Removed
reply_of_remove remove.NotAdded = reply.RemoveNotAdded
reply_of_remove remove.OutOfMemory = reply.OutOfMemory

abbrev pub reply_of_pause : PauseReply → Reply
reply_of_pause pausing.Changed = reply.Changed
reply_of_pause pausing.NotAdded = reply.NotAdded
reply_of_pause pausing.NotRunning = reply.NotRunning
reply_of_pause pausing.NoChange = reply.NoChange
reply_of_pause pausing.HistoryFull = reply.HistoryFull
reply_of_pause pausing.OutOfMemory = reply.OutOfMemory

abbrev pub reply_of_wakeup : WakeupReply → Reply
reply_of_wakeup wakeup.Ok = reply.Ok
reply_of_wakeup wakeup.Failure = reply.Failure
reply_of_wakeup wakeup.OutOfMemory = reply.OutOfMemory

abbrev pub reply_of_finish : {C O : Type 0} → FinishReply C O → Reply
reply_of_finish finish.Recorded = reply.Recorded
reply_of_finish (finish.Stale _) = reply.Stale
reply_of_finish (finish.OutOfMemory _ _) = reply.OutOfMemory

-- the ending that comes last after an end: a recorded one
abbrev pub ending_recorded : {C O : Type 0} → FinishReply C O → Ticket → O → List (Ticket × O)
ending_recorded finish.Recorded t o = (t, o) ∷ []
ending_recorded (finish.Stale _) t o = []
ending_recorded (finish.OutOfMemory _ _) t o = []

-- what is not recorded is handed back
abbrev pub IsHandedBack : {C O : Type 0} → C → O → FinishReply C O → Type 0
IsHandedBack claim ending finish.Recorded = Unit {0}
IsHandedBack claim ending (finish.Stale o) = o ≡ ending
IsHandedBack claim ending (finish.OutOfMemory c o) = (c ≡ claim) × (o ≡ ending)

-- given back work is queued again, or handed back
abbrev pub is_back : {Q : Type 0} → GiveBackReply Q → Bool
is_back giving.Back = true
is_back (giving.Stale _) = false

abbrev pub IsGivenBack : {Q : Type 0} → Q → GiveBackReply Q → Type 0
IsGivenBack work giving.Back = Unit {0}
IsGivenBack work (giving.Stale q) = q ≡ work

-- a queue with work at the place of its ticket: after the lower ones
abbrev pub in_place : {Q : Type 0} → Ticket → Q → List (Ticket × Q) → List (Ticket × Q)
in_place t work [] = (t, work) ∷ []
in_place t work (x ∷ queue) = (if nat_lt x.0.0 t.0 then x ∷ in_place t work queue else (t, work) ∷ x ∷ queue)

-- rule core-requeued-work: Work that a worker requeues goes to the place of its ticket in the queue, and needs no memory for that; that of
-- a removed or ended addition is stale.
--
-- the queue after work was given back
abbrev pub queue_given : {Q : Type 0} → GiveBackReply Q → List (Ticket × Q) → Ticket → Q → List (Ticket × Q)
queue_given giving.Back queue t work = in_place t work queue
queue_given (giving.Stale _) queue t work = queue

-- the origins after work was given back: that of its ticket is this work's
abbrev pub origins_given : {Q : Type 0} → GiveBackReply Q → List Origin → Ticket → Origin → List Origin
origins_given giving.Back origins t origin = slice_set origins t.0 origin
origins_given (giving.Stale _) origins t origin = origins

-- what was first in the queue, and is given back, is first again
abbrev pub GiveBackUndoesClaim : Type 0 → Type 0
GiveBackUndoesClaim Q = (t : Ticket) (work : Q) (rest : List (Ticket × Q)) → IsInOrder (queued ((t, work) ∷ rest)) → queue_given giving.Back rest t work ≡ (t, work) ∷ rest

abbrev pub reply_of_info : {O : Type 0} → (O → Code) → (O → ℕ) → InfoReply O → Reply
reply_of_info code size (info.Message h t o left) = reply.Message h t (code o) (size o) left
reply_of_info code size info.Empty = reply.Empty
reply_of_info code size info.OutOfMemory = reply.OutOfMemory

-- the ending that a message took
abbrev pub ending_read : {O : Type 0} → InfoReply O → List (Ticket × O)
ending_read (info.Message h t o left) = (t, o) ∷ []
ending_read info.Empty = []
ending_read info.OutOfMemory = []

-- the call that pauses a handle, and the one that resumes it
abbrev pub pausing_call : Bool → HandleId → Call
pausing_call true h = call.Pause h
pausing_call false h = call.Unpause h

abbrev pub is_pausing : What → Bool
is_pausing (what.Paused _) = true
is_pausing (what.Resumed _) = true
is_pausing _ = false

-- the answer that is a pause or a resumption that may follow, with room and without
abbrev pub answer_with_room : Bool → What → Answer
answer_with_room true event = (reply.Changed, Some event)
answer_with_room false event = only reply.HistoryFull

-- rule core-retire-claims: Nothing is retired while a claim is out.
--
-- no claim was out, the core is retired, and so many events are kept; or a claim is out, and nothing changes
abbrev pub IsRetiring : {Q O : Type 0} → Core Q O → RetireReply → Core Q O → Type 0
IsRetiring old (retiring.Retired n) new = (old.out ≡ 0) × (new ≡ retired old) × (n ≡ length new.journal)
IsRetiring old retiring.ClaimOut new = (0 < old.out) × (new ≡ old)
