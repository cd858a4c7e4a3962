use Rattle.std.proofs.Common.{◌≡◌, take}
use Rattle.mx_reason.specs.Lines.{line_behind}
use Rattle.mx_reason.proofs.line.is_behind_status.Given as goal

abbrev pub invariant-loop-b : goal.invariant-loop-b
invariant-loop-b l = line_behind (take l.b-index l.text) ≡ l.line
