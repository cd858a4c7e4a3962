use Rattle.std.proofs.Common.{◌≡◌}
use Rattle.mx_multi_tests_base.proofs.party.Party.play.Given as goal

abbrev pub invariant-loop : goal.invariant-loop
invariant-loop g l = l.self.one.client.of ≡ l.fn.self.one.client.of
