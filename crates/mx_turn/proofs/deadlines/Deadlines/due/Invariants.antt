use Rattle.std.proofs.Common.{◌≡◌, map, take}
use Rattle.mx_turn.specs.InOrder.{due_at}
use Rattle.mx_turn.proofs.deadlines.Deadlines.due.Given as goal

abbrev pub invariant-loop-deadline : goal.invariant-loop-deadline
invariant-loop-deadline l = l.due.items ≡ map (λ d. d.ticket) (due_at (take l.deadline-index l.set) l.now)
