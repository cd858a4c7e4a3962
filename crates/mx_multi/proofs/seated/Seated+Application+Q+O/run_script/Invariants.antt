use Rattle.std.proofs.Common.{◌≡◌, take}
use Rattle.mx_multi.specs.Laws.{RanScript}
use Rattle.mx_multi.proofs.seated.Seated+Application+Q+O.run_script.Given as goal

abbrev pub invariant-loop-call : goal.invariant-loop-call
invariant-loop-call g l = RanScript l.fn.self l.self (take l.made l.fn.script) × (l.made ≡ l.call-index)
