use Rattle.std.proofs.Common.{◌≡◌, ◌≤◌, ◌+◌}
use Rattle.std.specs.Prelude.{All, vec_capacity, vec_len}
use Rattle.mx_crew.proofs.slot.fill.Given as goal

abbrev pub invariant-loop-gate : goal.invariant-loop-gate
invariant-loop-gate g l = record {
  seats : All (λ s. s.of ≡ l.multi) l.seats.items;
  seats_left : vec_len l.slots + vec_len l.seats ≡ vec_len l.fn.seats;
  gates_left : vec_len l.slots + vec_len l.gates ≡ vec_len l.fn.gates;
  room : vec_len l.fn.seats ≤ vec_capacity l.slots;
}

abbrev pub decreases-loop-gate : goal.decreases-loop-gate
decreases-loop-gate g l = vec_len l.gates
