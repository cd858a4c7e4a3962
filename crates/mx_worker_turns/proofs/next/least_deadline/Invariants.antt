use Rattle.std.proofs.Common.{ℕ, ◌<◌, get_or}
use Rattle.mx_turn.specs.Engines.{HeldView}
use Rattle.mx_worker_turns.specs.Picks.{IsBounded}
use Rattle.mx_worker_turns.proofs.next.least_deadline.Given as goal

abbrev pub invariant-loop-place : goal.invariant-loop-place
invariant-loop-place g l = record {
  bounds : (k : ℕ) (d : HeldView _) → k < l.place → IsBounded l.least (get_or l.fn.todo.items k d);
}
