use Rattle.std.proofs.Common.{◌≡◌, ◌≤◌, ◌+◌, ◌-◌, drop, length}
use Rattle.std.specs.List.{prefix_len}
use Rattle.mx_folder.specs.Paths.{is_among}
use Rattle.mx_folder.proofs.paths.len_of.Given as goal

-- so many are in front, and as many more as in front of the rest
abbrev pub invariant-loop-len : goal.invariant-loop-len
invariant-loop-len l = record {
  within : l.len ≤ length l.text;
  front : prefix_len (is_among l.skipped) l.text ≡ l.len + prefix_len (is_among l.skipped) (drop l.len l.text);
}

abbrev pub decreases-loop-len : goal.decreases-loop-len
decreases-loop-len l = length l.text - l.len
