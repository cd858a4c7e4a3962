use Rattle.std.proofs.Common.{rules}
use Rattle.mx_turn.specs.Engines.{HeldView}
use Rattle.mx_worker_turns.specs.Picks.{IsBounded}
use Rattle.mx_worker_turns.proofs.Passing.{takes_some}
use Rattle.mx_worker_turns.proofs.Queues.{all_left}
use Rattle.mx_worker_turns.proofs.next.take_due.Goals as goal

pub returns-then-is_late-clause-bound : goal.returns-then-is_late-clause-bound
returns-then-is_late-clause-bound g c = all_left (IsBounded c.args.least.now) c.loop-place.todo.items _ c.loop-place.place (rw (c.loop-place.invariant.same) c.requires.bound) c.take.ensures.rest

pub returns-then-is_late-clause-taken : goal.returns-then-is_late-clause-taken
returns-then-is_late-clause-taken g c = rw (← c.loop-place.invariant.same)
    (takes_some c.args.now c.loop-place.todo.items (λ (h : HeldView _). h.of) _ c.loop-place.place c.take.result c.get.result.now _ (search rules) c.get.ensures (search rules) c.take.ensures.taken c.take.ensures.rest)
