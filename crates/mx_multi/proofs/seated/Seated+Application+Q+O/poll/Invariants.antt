use Rattle.std.proofs.Common.{◌≡◌}
use Rattle.mx_multi.proofs.seated.Seated+Application+Q+O.poll.Given as goal

abbrev pub invariant-loop : goal.invariant-loop
invariant-loop g l = l.self ≡ l.fn.self
