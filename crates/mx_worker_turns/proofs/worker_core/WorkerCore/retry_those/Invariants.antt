use Rattle.std.proofs.Common.{◌≡◌, ◌≤◌, ◌+◌, length, map}
use Rattle.mx_types.specs.Limits.{most_transfers}
use Rattle.mx_turn.specs.Workers.{Worker, in_hand}
use Rattle.mx_turn.specs.Turn.{Each, Retries}
use Rattle.mx_turn.specs.Engines.{EndView}
use Rattle.mx_worker_turns.proofs.worker_core.WorkerCore.retry_those.Given as goal

abbrev pub invariant-loop-gone : goal.invariant-loop-gone
invariant-loop-gone g l = record {
  so_far : (v : Worker _) → Each Retries (map (λ (x : EndView). x.end) l.todo.items) l.self.worker v → Each Retries (map (λ (x : EndView). x.end) l.fn.todo.items) l.fn.self.worker v;
  fits : length l.todo.items + in_hand l.self.worker ≤ most_transfers;
  of : l.todo.of ≡ l.fn.todo.of;
  same : l.self ≡ record l.fn.self { worker = l.self.worker };
  count : l.gone + length l.todo.items ≡ length l.fn.todo.items;
}
