use Rattle.std.proofs.Common.{◌≡◌, ◌≤◌, ◌*◌, take}
use Rattle.std.specs.List.{sum_by}
use Rattle.mx_types.specs.declared.names.Ticket.{Ticket}
use Rattle.mx_history.specs.History.{due_of}
use Rattle.mx_history.proofs.definitions.due.Given as goal

abbrev pub invariant-loop-ticket : goal.invariant-loop-ticket
invariant-loop-ticket l = record {
  sum : l.due ≡ sum_by (λ (t : Ticket). due_of t l.events) (take l.ticket-index l.ticket-items);
  few : l.due ≤ 3 * l.ticket-index;
}
