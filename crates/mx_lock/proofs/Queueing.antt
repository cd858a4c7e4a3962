-- What a call leaves of queued work and of waiting endings.
use Rattle.std.proofs.Common.{◌≡◌, inl, inr, ◌⊎◌, ⊎_elim, ℕ, ◌∙◌, sym, refl, ap, subst, List, [], ◌∷◌, ◌++◌, append-nil, true}
use Rattle.std.specs.Prelude.{map}
use Rattle.std.specs.List.{AllByRecursion}
use Rattle.mx_types.specs.declared.code.Code.{Code}
use Rattle.mx_types.specs.declared.names.Ticket.{Ticket}
use Rattle.mx_types.specs.declared.reply.Reply.{Reply}
use Rattle.mx_types.specs.declared.reply.Reply.TheVariants as reply
use Rattle.mx_journal.specs.History.{has_ticket, running}
use Rattle.mx_journal.specs.Core.{Core, IsSound, message, queued, still_running, still_waiting}
use Rattle.mx_journal.specs.declared.replies.AddReply.{AddReply}
use Rattle.mx_journal.specs.declared.replies.AddReply.TheVariants as add
use Rattle.mx_journal.specs.Replies.{ending_read, ending_recorded, queue_added, reply_of_finish}
use Rattle.mx_journal.specs.declared.replies.FinishReply.{FinishReply}
use Rattle.mx_journal.specs.declared.replies.FinishReply.TheVariants as finish
use Rattle.mx_journal.specs.declared.replies.InfoReply.{InfoReply}
use Rattle.mx_journal.proofs.Remains.{queue_stays, endings_stay}
use Rattle.mx_lock.specs.Queues.{Moved, PutsWork, LeavesWork, moves_none, moves_added, moves_read, moves_recorded, work_added}

front_runs : {Q : Type 0} (P : Ticket → Type 0) (q a : List (Ticket × Q)) → AllByRecursion P (queued (q ++ a)) → AllByRecursion P (queued q)
front_runs P [] a h = tt
front_runs P (x ∷ q) a h = (h.0, front_runs P q a h.1)

-- once it is known that a core is sound
pub leaves_work : {Q O : Type 0} (code : O → Code) (size : O → ℕ) (history : ℕ) (moved : Moved Q O) (x y : Core Q O) → IsSound code size history y.journal y.queue y.endings → PutsWork moved x y → LeavesWork moved x y
leaves_work {Q} {O} code size history moved x y sound put =
    let Runs : Ticket → Type 0 = λ t. has_ticket t (running y.journal) ≡ true in
    record {
      queue = ⊎_elim
          (λ (e : y.queue ≡ x.queue ++ moved.added).
          e ∙ ap (λ (q : List (Ticket × Q)). q ++ moved.added)
          (sym (queue_stays y.journal x.queue (front_runs Runs x.queue moved.added (subst (λ (q : List (Ticket × Q)). AllByRecursion Runs (queued q)) e sound.runs)))))
          (λ (e : y.queue ≡ still_running y.journal x.queue ++ moved.added). e)
          put.queue;
      rest = put.rest;
      read = put.read;
      endings = ⊎_elim
          (λ (e : (y.endings ≡ put.rest) × (moved.recorded ≡ [])).
          e.0 ∙ sym (endings_stay code size y.journal put.rest (ap (map (message code size)) (sym e.0) ∙ sound.waits))
          ∙ sym (append-nil (still_waiting y.journal put.rest)) ∙ ap (λ (l : List (Ticket × O)). still_waiting y.journal put.rest ++ l) (sym e.1))
          (λ (e : y.endings ≡ still_waiting y.journal put.rest ++ moved.recorded). e)
          put.endings;
    }

module _ {Q O : Type 0} (x y : Core Q O) where
  -- a call that leaves both
  pub puts_none : y.queue ≡ x.queue → y.endings ≡ x.endings → PutsWork moves_none x y
  puts_none queue endings = record { queue = inl (queue ∙ sym (append-nil x.queue)); rest = x.endings; read = refl; endings = inl (endings, refl) }

  added_is : (answer : AddReply Q) (work : Q) → queue_added answer x.queue work ≡ x.queue ++ work_added answer work
  added_is (add.Added t) work = refl
  added_is (add.AddedAlready _) work = sym (append-nil x.queue)
  added_is (add.TableFull _) work = sym (append-nil x.queue)
  added_is (add.TicketsSpent _) work = sym (append-nil x.queue)
  added_is (add.HistoryFull _) work = sym (append-nil x.queue)
  added_is (add.OutOfMemory _) work = sym (append-nil x.queue)

  pub puts_added : (answer : AddReply Q) (work : Q) → y.queue ≡ queue_added answer x.queue work → y.endings ≡ x.endings → PutsWork (moves_added answer work) x y
  puts_added answer work queue endings = record { queue = inl (queue ∙ added_is answer work); rest = x.endings; read = refl; endings = inl (endings, refl) }

  pub puts_read : (answer : InfoReply O) → y.queue ≡ x.queue → x.endings ≡ ending_read answer ++ y.endings → PutsWork (moves_read answer) x y
  puts_read answer queue endings = record { queue = inl (queue ∙ sym (append-nil x.queue)); rest = y.endings; read = endings; endings = inl (refl, refl) }

  pub puts_removed : y.queue ≡ still_running y.journal x.queue → y.endings ≡ still_waiting y.journal x.endings → PutsWork moves_none x y
  puts_removed queue endings =
      record { queue = inr (queue ∙ sym (append-nil (still_running y.journal x.queue))); rest = x.endings; read = refl; endings = inr (endings ∙ sym (append-nil (still_waiting y.journal x.endings))) }

-- what is recorded, by the reply
abbrev recorded_by : {O : Type 0} → Reply → Ticket → O → List (Ticket × O)
recorded_by reply.Recorded t o = (t, o) ∷ []
recorded_by _ t o = []

recorded_is : {C O : Type 0} (answer : FinishReply C O) (t : Ticket) (o : O) → ending_recorded answer t o ≡ recorded_by (reply_of_finish answer) t o
recorded_is finish.Recorded t o = refl
recorded_is (finish.Stale _) t o = refl
recorded_is (finish.OutOfMemory _ _) t o = refl

-- an end, whose answer is written with another claim
pub puts_recorded : {C D Q O : Type 0} (x y : Core Q O) (answer : FinishReply C O) (again : FinishReply D O) (t u : Ticket) (o : O) → y.queue ≡ still_running y.journal x.queue
    → y.endings ≡ still_waiting y.journal x.endings ++ ending_recorded answer t o → reply_of_finish again ≡ reply_of_finish answer → t ≡ u → PutsWork (moves_recorded again u o) x y
puts_recorded {C} {D} {Q} {O} x y answer again t u o queue endings same ticket =
    let is : ending_recorded answer t o ≡ ending_recorded again u o =
    recorded_is answer t o ∙ ap (λ r. recorded_by r t o) (sym same) ∙ sym (recorded_is again t o) ∙ ap (λ v. ending_recorded again v o) ticket in
    record {
      queue = inr (queue ∙ sym (append-nil (still_running y.journal x.queue)));
      rest = x.endings;
      read = refl;
      endings = inr (endings ∙ ap (λ (l : List (Ticket × O)). still_waiting y.journal x.endings ++ l) is);
    }
