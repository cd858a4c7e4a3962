use Rattle.std.proofs.Common.{◌≡◌, ℕ, ◌<◌, get_or}
use Rattle.mx_turn.specs.Turn.{IsLate}
use Rattle.mx_turn.specs.Engines.{HeldView}
use Rattle.mx_worker_turns.proofs.next.take_due.Given as goal

abbrev pub invariant-loop-place : goal.invariant-loop-place
invariant-loop-place g l = record {
  same : l.todo ≡ l.fn.todo;
  early : (k : ℕ) (d : HeldView _) → k < l.place → ¬ (IsLate l.now (get_or l.fn.todo.items k d).held);
}
