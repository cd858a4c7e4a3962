use Rattle.std.proofs.Common.{◌≡◌, ℕ, ◌≤◌, take, fold, min}
use Rattle.mx_turn.specs.Turn.{longest_wait, time_left}
use Rattle.mx_turn.specs.Engines.{HeldView}
use Rattle.mx_worker_turns.proofs.worker_core.least_left.Given as goal

abbrev pub invariant-loop-place : goal.invariant-loop-place
invariant-loop-place g l = record {
  so_far : l.least ≡ fold (λ (ms : ℕ) (h : HeldView _). min ms (time_left l.now h.held.transfer.now.deadline)) longest_wait (take l.place l.held.items);
  bound : l.least ≤ longest_wait;
}
