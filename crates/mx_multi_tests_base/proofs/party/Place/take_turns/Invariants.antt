use Rattle.std.proofs.Common.{◌≡◌}
use Rattle.mx_multi_tests_base.proofs.party.Place.take_turns.Given as goal

abbrev pub invariant-loop : goal.invariant-loop
invariant-loop g l = l.self.client.of ≡ l.fn.self.client.of
