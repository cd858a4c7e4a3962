use Rattle.std.proofs.Common.{◌≡◌}
use Rattle.mx_turn.specs.Turn.{Runs}
use Rattle.mx_worker_turns.specs.WorkerSteps.{beside}
use Rattle.mx_solo.proofs.solo.turn_all.Given as goal

abbrev pub invariant-loop : goal.invariant-loop
invariant-loop g l = record {
  runs : Runs g.L.Link.history g.L.Link.token_of (beside l.initial.worker.worker (g.G.Gate.said l.initial.gate)) (beside l.worker.worker (g.G.Gate.said l.gate));
  same : l.worker ≡ record l.initial.worker { worker = l.worker.worker };
}
