use Rattle.std.proofs.Common.{◌≡◌}
use Rattle.mx_turn.specs.Engines.{HeldView}
use Rattle.mx_worker_turns.specs.Picks.{IsBounded}
use Rattle.mx_worker_turns.proofs.Queues.{all_popped}
use Rattle.mx_worker_turns.proofs.next.take_next.Goals as goal

pub returns-clause-bound : goal.returns-clause-bound
returns-clause-bound g c = all_popped (IsBounded c.take_due_by.new.least) (λ (h : HeldView _). h.of ≡ c.take_due_by.new.todo.of) c.pop.result c.take_due_by.new.todo.items _ c.take_due_by.ensures.bound c.pop.ensures.taken c.pop.ensures.rest
