use Rattle.std.proofs.Common.{◌≡◌, take}
use Rattle.mx_history.specs.History.{beyond}
use Rattle.mx_history.proofs.definitions.beyond.Given as goal

abbrev pub invariant-loop-event : goal.invariant-loop-event
invariant-loop-event l = l.most ≡ beyond (take l.event-index l.events)
