use Rattle.std.proofs.Common.{take}
use Rattle.mx_history.specs.Table.{IsTableOf, HasCounters}
use Rattle.mx_journal.proofs.retiring.fill.Given as goal

abbrev pub invariant-loop-event : goal.invariant-loop-event
invariant-loop-event l = IsTableOf (take l.event-index l.journal) l.table × HasCounters l.table.makers
