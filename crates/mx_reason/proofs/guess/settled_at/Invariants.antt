use Rattle.std.proofs.Common.{length, ◌-◌, ◌≤◌}
use Rattle.mx_reason.proofs.guess.settled_at.Given as goal

abbrev pub invariant-loop-at : goal.invariant-loop-at
invariant-loop-at l = l.at ≤ length l.body

abbrev pub decreases-loop-at : goal.decreases-loop-at
decreases-loop-at l = length l.body - l.at
