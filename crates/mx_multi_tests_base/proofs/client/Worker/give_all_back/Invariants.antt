use Rattle.std.proofs.Common.{◌≡◌}
use Rattle.mx_multi_tests_base.proofs.client.Worker.give_all_back.Given as goal

abbrev pub invariant-loop : goal.invariant-loop
invariant-loop g l = l.self.seat.of ≡ l.fn.self.seat.of
