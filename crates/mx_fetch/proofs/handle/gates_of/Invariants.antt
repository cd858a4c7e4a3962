use Rattle.std.proofs.Common.{◌≡◌, ◌≤◌, ◌+◌}
use Rattle.std.specs.Prelude.{vec_capacity, vec_len}
use Rattle.mx_fetch.proofs.handle.gates_of.Given as goal

abbrev pub invariant-loop-one : goal.invariant-loop-one
invariant-loop-one g l = record {
  taken : vec_len l.gates + vec_len l.worked ≡ vec_len l.fn.worked;
  room : vec_len l.fn.worked ≤ vec_capacity l.gates;
}

abbrev pub decreases-loop-one : goal.decreases-loop-one
decreases-loop-one g l = vec_len l.worked
