use Rattle.std.proofs.Common.{◌≡◌, map, take}
use Rattle.mx_types.specs.declared.names.HandleId.{HandleId}
use Rattle.mx_types.specs.declared.names.Ticket.{Ticket}
use Rattle.mx_history.proofs.definitions.tickets.Given as goal

abbrev pub invariant-loop-addition : goal.invariant-loop-addition
invariant-loop-addition l = l.list.items ≡ map (λ (x : HandleId × Ticket). x.1) (take l.addition-index l.addition-items)
