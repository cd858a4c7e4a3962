use Rattle.mx_worker_turns.proofs.Waiting.{if_waits}
use Rattle.mx_worker_turns.proofs.worker_core.poll_once.Goals as goal

pub returns-clause-waited : goal.returns-clause-waited
returns-clause-waited g c = rw (c.swap-2.ensures) (if_waits g.L.Link.history c.swap.new.transfer c.poll-polled.new.self c.poll-polled.result (c.poll-polled.ensures.turn))
