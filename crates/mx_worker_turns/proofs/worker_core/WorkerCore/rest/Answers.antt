use Rattle.mx_worker_turns.proofs.Waiting.{rests_on}
use Rattle.mx_worker_turns.proofs.worker_core.WorkerCore.rest.Goals as goal

pub returns-clause-serves : goal.returns-clause-serves
returns-clause-serves g c said =
    let awaits = rw (← c.deref_mut-rested.ensures.value) at c.requires.awaits in
    rw (← c.deref_mut-rested.ensures.value) (rests_on _ _ c.args.delayed c.could_go_on.result _ c.args.self.now.worker c.note.new.self.worker c.hold_on.new.self.worker said awaits c.note.ensures.noted c.could_go_on.ensures (rw c.waiting.ensures at c.hold_on.ensures.held))
