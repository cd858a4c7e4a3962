use Rattle.mx_worker_turns.proofs.Looking.{ready_paused, ready_on}
use Rattle.mx_worker_turns.proofs.worker_core.WorkerCore.make_ready.Goals as goal

pub returns-then-not-goes-clause-ready : goal.returns-then-not-goes-clause-ready
returns-then-not-goes-clause-ready g c = ready_paused _ _ c.args.now c.args.goes c.args.transfer.now _ _ c.if-not-goes.true c.prepare.ensures

pub returns-clause-ready : goal.returns-clause-ready
returns-clause-ready g c = rw (← c.self.view_is) (ready_on _ _ c.args.now c.args.goes c.supply.result c.args.transfer.now _ _ _ _ _ c.if-not-goes.false c.prepare.ensures c.supply.ensures.supplied)
