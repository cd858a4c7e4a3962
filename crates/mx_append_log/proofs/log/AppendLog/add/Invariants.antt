use Rattle.std.proofs.Common.{◌≡◌}
use Rattle.mx_append_log.proofs.log.AppendLog.add.Given as goal

abbrev pub invariant-loop : goal.invariant-loop
invariant-loop g l = l.self ≡ l.fn.self
