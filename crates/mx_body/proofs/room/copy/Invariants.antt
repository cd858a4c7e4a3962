use Rattle.std.proofs.Common.{length, take, ◌-◌, ◌++◌, ◌≡◌, ◌≤◌}
use Rattle.mx_body.proofs.room.copy.Given as goal

abbrev pub invariant-loop-copied : goal.invariant-loop-copied
invariant-loop-copied l = record {
  within : l.copied ≤ length l.bytes;
  items : l.to.items ≡ l.initial.to.items ++ take l.copied l.bytes;
}

abbrev pub decreases-loop-copied : goal.decreases-loop-copied
decreases-loop-copied l = length l.bytes - l.copied
