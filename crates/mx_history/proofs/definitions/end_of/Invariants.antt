use Rattle.std.proofs.Common.{◌≡◌, drop}
use Rattle.mx_history.specs.History.{end_of}
use Rattle.mx_history.proofs.definitions.end_of.Given as goal

abbrev pub invariant-loop-at : goal.invariant-loop-at
invariant-loop-at l = end_of l.ticket (drop l.at l.events) ≡ end_of l.ticket l.events
