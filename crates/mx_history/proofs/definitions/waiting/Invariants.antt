use Rattle.std.proofs.Common.{◌≡◌, ◌++◌, drop, map}
use Rattle.mx_history.specs.Definitions.{message_parts}
use Rattle.mx_history.specs.History.{waiting}
use Rattle.mx_history.proofs.definitions.waiting.Given as goal

abbrev pub invariant-loop-at : goal.invariant-loop-at
invariant-loop-at l = l.list.items ++ map message_parts (waiting (drop l.at l.events)) ≡ map message_parts (waiting l.events)
