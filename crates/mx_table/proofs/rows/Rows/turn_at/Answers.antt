use Rattle.std.proofs.Common.{refl}
use Rattle.mx_history.specs.Rows.{turned}
use Rattle.mx_table.proofs.Kept.{kept_set}
use Rattle.mx_table.proofs.rows.Rows.turn_at.Goals as goal

pub invariant_of-self : goal.invariant_of-self
invariant_of-self c =
    let row = c.index-before.result.now in (
      rw (c.after-after.ensures, c.places.ensures.value, c.places-2.ensures.value, c.after-after.ensures)
          (kept_set c.self.inside.rows.items c.self.inside.handles.items c.self.inside.tickets.items c.self.inside.due c.self.inside.slot_counts.items c.args.at row (turned c.args.what.now row)
          c.self.invariant.0 (rw (← c.self.view_is) at c.requires) c.index-before.ensures refl refl refl),
      c.self.invariant.1,
      c.self.invariant.2,
      c.self.invariant.3,
    )
