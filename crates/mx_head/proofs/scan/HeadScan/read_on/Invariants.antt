use Rattle.std.proofs.Common.{◌≡◌, ◌≤◌, ◌-◌, length, take}
use Rattle.mx_head.specs.Scan.{after_all}
use Rattle.mx_head.proofs.scan.HeadScan.read_on.Given as goal

abbrev pub invariant-loop-read : goal.invariant-loop-read
invariant-loop-read l = (l.read ≤ length l.text) × (after_all (take l.read l.text) ≡ l.reached)

abbrev pub decreases-loop-read : goal.decreases-loop-read
decreases-loop-read l = length l.text - l.read
