use Rattle.std.proofs.Common.{◌≡◌, ℕ, ◌<◌, ◌≤◌, length}
use Rattle.std.specs.Prelude.{slice_index_or}
use Rattle.mx_multi.specs.Meeting.{SeesAll}
use Rattle.mx_multi.specs.Seats.{SeatView}
use Rattle.mx_multi.proofs.meet.see_each.Given as goal

abbrev pub invariant-loop-at : goal.invariant-loop-at
invariant-loop-at g l = record {
  same : l.taken ≡ l.fn.taken;
  long : length l.seats ≡ length l.fn.seats;
  seen : (k : ℕ) (d : SeatView g.row.Q.Denot g.row.O.Denot) → k < l.at → SeesAll l.fn.taken.core.journal (slice_index_or l.fn.seats k d) (slice_index_or l.seats k d);
  rest : (k : ℕ) (d : SeatView g.row.Q.Denot g.row.O.Denot) → l.at ≤ k → slice_index_or l.seats k d ≡ slice_index_or l.fn.seats k d;
}
