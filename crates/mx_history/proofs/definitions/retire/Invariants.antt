use Rattle.std.proofs.Common.{◌≡◌, take}
use Rattle.mx_history.specs.History.{only_of, has_ticket}
use Rattle.mx_history.proofs.definitions.retire.Given as goal

abbrev pub invariant-loop-event : goal.invariant-loop-event
invariant-loop-event l = l.kept.items ≡ only_of (λ t. has_ticket t l.list.items) (take l.event-index l.events)
