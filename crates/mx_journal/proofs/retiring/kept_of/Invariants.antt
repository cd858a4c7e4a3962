use Rattle.std.proofs.Common.{◌≡◌, take}
use Rattle.std.specs.List.{list_any}
use Rattle.mx_types.specs.declared.names.Ticket.{Ticket}
use Rattle.mx_history.specs.declared.row.Row.{Row}
use Rattle.mx_history.specs.History.{only_of, same_ticket}
use Rattle.mx_journal.proofs.retiring.kept_of.Given as goal

abbrev pub invariant-loop-event : goal.invariant-loop-event
invariant-loop-event l = l.list.items ≡ only_of (λ (t : Ticket). list_any (λ (r : Row). same_ticket t r.ticket) l.table.rows) (take l.event-index l.journal)
