use Rattle.std.proofs.Common.{◌≡◌, ◌≤◌}
use Rattle.std.specs.Prelude.{vec_capacity, vec_len}
use Rattle.mx_crew.proofs.crew.Crew.fill.Given as goal

abbrev pub invariant-loop-made : goal.invariant-loop-made
invariant-loop-made g l = record {
  made : vec_len l.gates ≡ l.made;
  room : l.fn.count ≤ vec_capacity l.gates;
}
