use Rattle.std.proofs.Common.{rules}
use Rattle.mx_turn.specs.Turn.{returns as gives_back_so}
use Rattle.mx_worker_turns.proofs.worker_core.WorkerCore.hand_back.Goals as goal

pub returns-clause-gives : goal.returns-clause-gives
returns-clause-gives g c = gives_back_so c.give_back.ensures.gives.0 (search rules) c.give_back.ensures.gives.1
