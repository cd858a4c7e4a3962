use Rattle.std.proofs.Common.{◌≡◌, ◌≤◌, take, drop}
use Rattle.mx_folder.specs.Paths.{last_segment}
use Rattle.mx_folder.proofs.paths.last_segment.Given as goal

-- what follows the last slash so far
abbrev pub invariant-loop-i : goal.invariant-loop-i
invariant-loop-i l = record {
  within : l.start ≤ l.i;
  behind : drop l.start (take l.i l.path) ≡ last_segment (take l.i l.path);
}
