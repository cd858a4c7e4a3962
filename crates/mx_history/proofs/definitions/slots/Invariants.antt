use Rattle.std.proofs.Common.{◌≡◌, take}
use Rattle.mx_history.specs.Slots.{slots}
use Rattle.mx_history.proofs.definitions.slots.Given as goal

abbrev pub invariant-loop-event : goal.invariant-loop-event
invariant-loop-event l = l.list.items ≡ slots (take l.event-index l.events)
