use Rattle.std.proofs.Common.{refl}
use Rattle.mx_worker_turns.proofs.Looking.{alike}
use Rattle.mx_worker_turns.proofs.worker_core.WorkerCore.give_back.Goals as goal

pub returns-clause-gives : goal.returns-clause-gives
returns-clause-gives g c = rw (← c.self.view_is)
    (c.give_back.ensures.did.0, alike _ _ refl refl refl refl refl c.give_back.ensures.did.1 refl)
