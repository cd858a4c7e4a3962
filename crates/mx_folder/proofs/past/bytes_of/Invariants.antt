use Rattle.std.proofs.Common.{◌≡◌, ◌≤◌, drop, length}
use Rattle.mx_folder.proofs.past.bytes_of.Given as goal

-- the bytes from here on
abbrev pub invariant-loop-left : goal.invariant-loop-left
invariant-loop-left l = record {
  within : l.left ≤ length l.bytes;
  behind : l.all ≡ drop l.left l.bytes;
}

abbrev pub decreases-loop-left : goal.decreases-loop-left
decreases-loop-left l = l.left
