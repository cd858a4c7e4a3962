-- The numbers of what calls on a multi handle answer: those of CURLMcode in libcurl-errors(3), and from 100 on this
-- engine's own.
use Rattle.std.specs.Prelude.{ℕ}
use Rattle.mx_types.specs.declared.multi_code.MCode.{MCode}
use Rattle.mx_types.specs.declared.multi_code.MCode.TheVariants as multi
use Rattle.mx_types.specs.declared.reply.Reply.{Reply}
use Rattle.mx_types.specs.declared.reply.Reply.TheVariants as reply

-- the number of a code
abbrev pub multi_number : MCode → ℕ
multi_number multi.Ok = 0
multi_number multi.OutOfMemory = 3
multi_number multi.AddedAlready = 7
multi_number multi.WakeupFailure = 9
multi_number multi.TableFull = 100
multi_number multi.HistoryFull = 101
multi_number multi.NotRunning = 102
multi_number multi.NotAdded = 103
multi_number multi.TicketsSpent = 104

-- the code of a reply
abbrev pub reply_code : Reply → MCode
reply_code reply.AddedAlready = multi.AddedAlready
reply_code reply.TableFull = multi.TableFull
reply_code reply.TicketsSpent = multi.TicketsSpent
reply_code reply.HistoryFull = multi.HistoryFull
reply_code reply.NotAdded = multi.NotAdded
reply_code reply.NotRunning = multi.NotRunning
reply_code reply.Failure = multi.WakeupFailure
reply_code reply.OutOfMemory = multi.OutOfMemory
reply_code (reply.Added _) = multi.Ok
reply_code reply.Removed = multi.Ok
reply_code reply.RemoveNotAdded = multi.Ok
reply_code reply.Changed = multi.Ok
reply_code reply.NoChange = multi.Ok
reply_code (reply.Message _ _ _ _ _) = multi.Ok
reply_code reply.Empty = multi.Ok
reply_code reply.Ok = multi.Ok
reply_code reply.Woken = multi.Ok
reply_code (reply.Handles _) = multi.Ok
reply_code (reply.Running _) = multi.Ok
reply_code (reply.State _) = multi.Ok
reply_code reply.Recorded = multi.Ok
reply_code reply.Stale = multi.Ok
reply_code (reply.Look _) = multi.Ok
