use Rattle.std.specs.Prelude.{◌≡◌}
use Rattle.mx_run_get_body.specs.Bodies.{IsAwaited}
use Rattle.mx_run_get_body.proofs.fetching.Fetching.take_turns.Given as goal

abbrev pub invariant-loop : goal.invariant-loop
invariant-loop g l = record {
  asked : IsAwaited l.self l.desk.asked;
  same : l.self.request ≡ l.fn.self.request;
}
