use Rattle.std.proofs.Common.{◌≡◌, ℕ, ◌≤◌, ◌+◌, length, map, true}
use Rattle.std.specs.Prelude.{All}
use Rattle.mx_types.specs.Limits.{most_transfers}
use Rattle.mx_turn.specs.Workers.{Worker, in_hand}
use Rattle.mx_turn.specs.Turn.{GoesThrough}
use Rattle.mx_turn.specs.Engines.{HeldView}
use Rattle.mx_worker_turns.specs.WorkerSteps.{beside}
use Rattle.mx_worker_turns.specs.Picks.{IsBounded}
use Rattle.mx_worker_turns.proofs.worker_core.WorkerCore.go_through.Given as goal

abbrev pub invariant-loop-gone : goal.invariant-loop-gone
invariant-loop-gone g l = record {
  so_far : (last : ℕ) (v : Worker _) → GoesThrough g.L.Link.history g.L.Link.token_of last v l.moment l.is_new (map (λ (x : HeldView _). x.held) l.todo.items) (beside l.self.worker (g.G.Gate.said l.gate)) → GoesThrough g.L.Link.history g.L.Link.token_of last v l.now true (map (λ (x : HeldView _). x.held) l.fn.todo.items) (beside l.fn.self.worker (g.G.Gate.said l.fn.gate));
  bound : All (IsBounded l.least) l.todo.items;
  fits : length l.todo.items + in_hand l.self.worker ≤ most_transfers;
  of : l.todo.of ≡ l.fn.todo.of;
  same : l.self ≡ record l.fn.self { worker = l.self.worker };
  count : l.gone + length l.todo.items ≡ length l.fn.todo.items;
}
