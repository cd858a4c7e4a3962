use Rattle.std.proofs.Common.{◌≡◌}
use Rattle.mx_turn.specs.Turn.{Runs}
use Rattle.mx_worker_turns.specs.WorkerSteps.{beside}
use Rattle.mx_worker_turns.proofs.worker.Worker.run.Given as goal

abbrev pub invariant-loop : goal.invariant-loop
invariant-loop g l = record {
  runs : Runs g.L.Link.history g.L.Link.token_of (beside l.fn.self.worker (g.G.Gate.said l.fn.gate)) (beside l.self.worker (g.G.Gate.said l.gate));
  same : l.self ≡ record l.fn.self { worker = l.self.worker };
}
