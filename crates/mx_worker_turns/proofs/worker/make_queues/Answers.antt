use Rattle.mx_worker_turns.proofs.worker.make_queues.Goals as goal

pub returns-clause-in_flight : goal.returns-clause-in_flight
returns-clause-in_flight g c = c.in-Ok.ensures
