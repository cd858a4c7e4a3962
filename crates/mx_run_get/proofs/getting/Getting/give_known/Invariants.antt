use Rattle.std.specs.Prelude.{◌-◌, List, Option, length}
use Rattle.mx_request.specs.Request.{RequestValue}
use Rattle.mx_run_get.specs.Getting.{AreAwaited, IsSameGetting}
use Rattle.mx_run_get.proofs.getting.Getting.give_known.Given as goal

abbrev pub invariant-loop-is_any : goal.invariant-loop-is_any
invariant-loop-is_any g l = record {
  awaited : (asked : List (Option RequestValue)) → AreAwaited l.fn.self.places asked → AreAwaited l.self.places asked;
  same : IsSameGetting l.fn.self l.self;
}

abbrev pub decreases-loop-is_any : goal.decreases-loop-is_any
decreases-loop-is_any g l = length l.self.places - length l.self.taken
