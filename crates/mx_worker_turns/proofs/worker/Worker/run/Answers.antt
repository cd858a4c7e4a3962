use Rattle.std.proofs.Common.{refl, rules}
use Rattle.mx_turn.specs.Turn.{begins, turns}
use Rattle.mx_worker_turns.proofs.worker.Worker.run.Goals as goal

pub loop-init : goal.loop-init
loop-init g c = record { runs = begins; same = refl }

pub loop-preserved : goal.loop-preserved
loop-preserved g c = record { runs = turns c.loop.invariant.runs c.turn.ensures.turn; same = search rules }
