use Rattle.std.proofs.Common.{length}
use Rattle.mx_save.proofs.Sweeps.{AreSwept}
use Rattle.mx_save.proofs.ledger.Ledger.sweep.Given as goal

abbrev pub invariant-loop : goal.invariant-loop
invariant-loop g l = AreSwept l.fn.self l.self

abbrev pub decreases-loop : goal.decreases-loop
decreases-loop g l = length l.self.out
