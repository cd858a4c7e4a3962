use Rattle.std.proofs.Common.{◌≤◌, ◌-◌, length}
use Rattle.mx_save_tests.proofs.sink_bodies.give.Given as goal

-- so many bytes were taken
abbrev pub invariant-loop-at : goal.invariant-loop-at
invariant-loop-at g l = l.at ≤ length l.body

abbrev pub decreases-loop-at : goal.decreases-loop-at
decreases-loop-at g l = length l.body - l.at
