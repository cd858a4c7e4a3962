use Rattle.mx_worker_turns.proofs.worker_core.WorkerCore.poll.Goals as goal

pub returns-clause-polls : goal.returns-clause-polls
returns-clause-polls g c = rw (← c.self.view_is) (record { new = c.poll_once-stepped.new.transfer; polled = c.poll_once-stepped.ensures.steps; noted = c.note.ensures.noted })
