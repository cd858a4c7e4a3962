use Rattle.std.proofs.Common.{◌≡◌}
use Rattle.mx_multi_tests_base.proofs.stress.Parties.take_all_apart.Given as goal

abbrev pub invariant-loop : goal.invariant-loop
invariant-loop l = (l.pool.multi ≡ l.fn.pool.multi) × (l.self.multi ≡ l.fn.self.multi)
