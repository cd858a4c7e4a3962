-- What every call of the core that may make an event says of the core and of the log.
use Rattle.std.specs.Prelude.{ℕ, ◌-◌, ◌≡◌, ◌++◌, List, drop, false, length, true}
use Rattle.mx_types.specs.declared.call.Call.{Call}
use Rattle.mx_types.specs.declared.event.Event.{Event}
use Rattle.mx_types.specs.declared.event.Who.{Who}
use Rattle.mx_types.specs.declared.reply.Reply.{Reply}
use Rattle.mx_types.specs.declared.reply.Reply.TheVariants as reply
use Rattle.mx_history.specs.Answers.{Answers}
use Rattle.mx_history.specs.Receipts.{comes_with_event, lacks_memory}
use Rattle.mx_journal.specs.Core.{Core, with_out}

-- how many claims are out after a call, by its reply: where an end was handed in, and memory was not refused, a claim came back
abbrev pub out_after : Reply → ℕ → ℕ
out_after reply.Recorded out = out - 1
out_after reply.Stale out = out - 1
out_after _ out = out

-- The call was answered after the journal that the core had. The log, which is still that log, got the event that the journal got, if any.
-- Memory was refused only where the log could refuse it. A claim came back where an end was handed in. Beside that, a call that comes with
-- no event changes nothing; and what the core was opened with stays. The first three are a log's ghost members.
pub record Called {L Q O : Type 0} (events : L → List Event) (name : L → List ℕ) (may_refuse : L → Type 0) (who : Who) (call : Call) (old new : Core Q O) (before after : L) (reply : Reply) : Type 0 where
  pub answers : Answers old.opening who call old.journal reply new.journal
  pub logged : events after ≡ events before ++ drop (length old.journal) new.journal
  pub same_log : name after ≡ name before
  pub memory : lacks_memory reply ≡ true → may_refuse before
  pub out : new.out ≡ out_after reply old.out
  pub unchanged : comes_with_event reply ≡ false → new ≡ with_out (out_after reply old.out) old
  pub opening : new.opening ≡ old.opening
