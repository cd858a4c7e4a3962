use Rattle.std.proofs.Common.{◌≡◌}
use Rattle.mx_desk.specs.Ties.{ties_of}
use Rattle.mx_desk.proofs.desk.all_that_came.Given as goal

abbrev pub invariant-loop-at : goal.invariant-loop-at
invariant-loop-at g l = ties_of l.seats ≡ ties_of l.fn.seats
