use Rattle.std.specs.Prelude.{IfSome}
use Rattle.mx_fetch.proofs.second.fetch_seconds.Given as goal

abbrev pub invariant-loop : goal.invariant-loop
invariant-loop g l = record {
  run : g.E.Fetch.is_same l.fn.second.errand.value l.second.errand.value;
  asked : IfSome l.second.desk (λ d. g.E.Fetch.is_asked l.second.errand.value d.asked);
}
