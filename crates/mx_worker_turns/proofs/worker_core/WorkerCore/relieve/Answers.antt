use Rattle.std.proofs.Common.{refl}
use Rattle.mx_worker_turns.proofs.Turning.{relieves_so}
use Rattle.mx_worker_turns.proofs.worker_core.WorkerCore.relieve.Goals as goal

pub returns-clause-relieves : goal.returns-clause-relieves
returns-clause-relieves g c = rw (← c.self.view_is) (relieves_so _ _ _ _ _ _ refl refl c.relieve.ensures)
