use Rattle.std.proofs.Common.{◌≡◌, take, true}
use Rattle.mx_history.specs.History.{is_legal}
use Rattle.mx_history.proofs.definitions.is_legal.Given as goal

abbrev pub invariant-loop-at : goal.invariant-loop-at
invariant-loop-at l = is_legal (take l.at l.events) ≡ true
