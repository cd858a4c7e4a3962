use Rattle.std.proofs.Common.{◌≡◌, ◌++◌, drop, map}
use Rattle.mx_history.specs.Definitions.{addition_pair}
use Rattle.mx_history.specs.History.{added}
use Rattle.mx_history.proofs.definitions.added.Given as goal

abbrev pub invariant-loop-at : goal.invariant-loop-at
invariant-loop-at l = l.list.items ++ map addition_pair (added (drop l.at l.events)) ≡ map addition_pair (added l.events)
