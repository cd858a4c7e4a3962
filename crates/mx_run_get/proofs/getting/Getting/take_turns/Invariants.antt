use Rattle.mx_run_get.specs.Getting.{AreAwaited, IsSameGetting}
use Rattle.mx_run_get.proofs.getting.Getting.take_turns.Given as goal

abbrev pub invariant-loop : goal.invariant-loop
invariant-loop g l = record {
  all : AreAwaited l.self.places l.desk.asked;
  same : IsSameGetting l.fn.self l.self;
}
