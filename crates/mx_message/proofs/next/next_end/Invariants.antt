use Rattle.std.proofs.Common.{◌≡◌}
use Rattle.mx_message.specs.Message.{Waited}
use Rattle.mx_message.proofs.next.next_end.Given as goal

abbrev pub invariant-loop : goal.invariant-loop
invariant-loop g l = (l.seat.of ≡ l.fn.seat.of) × Waited l.fn.seat l.seat
