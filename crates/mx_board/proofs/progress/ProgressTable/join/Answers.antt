use Rattle.std.proofs.Common.{rules, arith}
use Rattle.mx_board.proofs.Noting.{joining_keeps}
use Rattle.mx_board.proofs.progress.ProgressTable.join.Goals as goal

pub join_seat-requires : goal.join_seat-requires
join_seat-requires c = (
  search rules,
  search rules,
  c.other.invariant.0,
  omega (arith, c.self.invariant.0),
  λ s kept at apart there.
      joining_keeps _ s.words s.views c.seat.inside.seat.id c.seat.inside.seat.me.0 c.other.inside.seat.id c.other.inside.seat.me.0 kept at c.seat.invariant.1 apart there,
)
