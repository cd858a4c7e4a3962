use Rattle.std.proofs.Common.{◌≤◌, ◌-◌, length, take}
use Rattle.httparse.specs.Grammar.{AllPass, is_value_byte}
use Rattle.mx_head.proofs.scan.value_run.Given as goal

abbrev pub invariant-loop-n : goal.invariant-loop-n
invariant-loop-n l = (l.n ≤ length l.text) × AllPass is_value_byte (take l.n l.text)

abbrev pub decreases-loop-n : goal.decreases-loop-n
decreases-loop-n l = length l.text - l.n
