use Rattle.std.proofs.Common.{◌≡◌, List}
use Rattle.std.specs.Prelude.{Option, vec_len}
use Rattle.mx_request.specs.Request.{RequestValue}
use Rattle.mx_fetch.proofs.first.run_on.Given as goal

abbrev pub invariant-loop : goal.invariant-loop
invariant-loop g l = record {
  room : l.first.room ≡ l.fn.first.room;
  gates : vec_len l.gates ≡ l.fn.first.room.limits.workers;
  run : g.E.Fetch.is_same l.fn.first.errand.value l.first.errand.value;
  asked : (asked : List (Option RequestValue)) → g.E.Fetch.is_asked l.first.errand.value asked;
}
