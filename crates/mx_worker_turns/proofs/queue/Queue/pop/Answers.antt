use Rattle.std.proofs.Common.{rules}
use Rattle.mx_worker_turns.proofs.Queues.{all_rest}
use Rattle.mx_worker_turns.proofs.queue.Queue.pop.Goals as goal

pub invariant_of-self-2 : goal.invariant_of-self-2
invariant_of-self-2 g c = (search rules, (all_rest g.T.Tied.of _ _ _ _ c.self.invariant.1 c.in-Some.ensures.items).1)
