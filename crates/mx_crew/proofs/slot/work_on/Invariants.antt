use Rattle.std.proofs.Common.{◌≡◌}
use Rattle.mx_crew.specs.Worked.{AreRefusals}
use Rattle.mx_crew.proofs.slot.work_on.Given as goal

abbrev pub invariant-loop : goal.invariant-loop
invariant-loop g l = record {
  seat : l.seat ≡ l.fn.seat;
  refusals : AreRefusals (g.G.Gate.said l.gate);
}
