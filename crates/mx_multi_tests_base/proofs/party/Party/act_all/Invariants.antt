use Rattle.std.proofs.Common.{◌≡◌}
use Rattle.mx_multi_tests_base.proofs.party.Party.act_all.Given as goal

abbrev pub invariant-loop-act : goal.invariant-loop-act
invariant-loop-act g l = l.self.one.client.of ≡ l.fn.self.one.client.of
