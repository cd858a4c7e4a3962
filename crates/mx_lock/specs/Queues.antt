-- What a call leaves of queued work and of waiting endings.
use Rattle.std.specs.Prelude.{◌≡◌, ◌⊎◌, List, [], ◌∷◌, ◌++◌}
use Rattle.mx_types.specs.declared.names.Ticket.{Ticket}
use Rattle.mx_journal.specs.Core.{Core, still_running, still_waiting}
use Rattle.mx_journal.specs.Replies.{ending_read, ending_recorded}
use Rattle.mx_journal.specs.declared.replies.AddReply.{AddReply}
use Rattle.mx_journal.specs.declared.replies.AddReply.TheVariants as add
use Rattle.mx_journal.specs.declared.replies.FinishReply.{FinishReply}
use Rattle.mx_journal.specs.declared.replies.InfoReply.{InfoReply}

-- the work that an answer added, the endings that it read, and those that it recorded
pub record Moved (Q O : Type 0) : Type 0 where
  pub added : List (Ticket × Q)
  pub read : List (Ticket × O)
  pub recorded : List (Ticket × O)

abbrev pub moves_none : {Q O : Type 0} → Moved Q O
moves_none = record { added = []; read = []; recorded = [] }

abbrev pub work_added : {Q : Type 0} → AddReply Q → Q → List (Ticket × Q)
work_added (add.Added t) work = (t, work) ∷ []
work_added _ work = []

abbrev pub moves_added : {Q O : Type 0} → AddReply Q → Q → Moved Q O
moves_added answer work = record { added = work_added answer work; read = []; recorded = [] }

abbrev pub moves_read : {Q O : Type 0} → InfoReply O → Moved Q O
moves_read answer = record { added = []; read = ending_read answer; recorded = [] }

abbrev pub moves_recorded : {C Q O : Type 0} → FinishReply C O → Ticket → O → Moved Q O
moves_recorded answer t ending = record { added = []; read = []; recorded = ending_recorded answer t ending }

-- Private: what a call of the core left: all that was there, or what runs and waits still
pub record PutsWork {Q O : Type 0} (moved : Moved Q O) (old new : Core Q O) : Type 0 where
  pub queue : (new.queue ≡ old.queue ++ moved.added) ⊎ (new.queue ≡ still_running new.journal old.queue ++ moved.added)
  pub rest : List (Ticket × O)
  pub read : old.endings ≡ moved.read ++ rest
  pub endings : ((new.endings ≡ rest) × (moved.recorded ≡ [])) ⊎ (new.endings ≡ still_waiting new.journal rest ++ moved.recorded)

-- rule multi-queue
-- Of the queued work what runs still is queued, and what was added comes last: none leaves the queue but by a claim, its removal or its end.
-- Of the endings those that were read were the first; of the others, those whose messages wait still are there, and what was recorded comes
-- last.
pub record LeavesWork {Q O : Type 0} (moved : Moved Q O) (old new : Core Q O) : Type 0 where
  pub queue : new.queue ≡ still_running new.journal old.queue ++ moved.added
  pub rest : List (Ticket × O)
  pub read : old.endings ≡ moved.read ++ rest
  pub endings : new.endings ≡ still_waiting new.journal rest ++ moved.recorded
