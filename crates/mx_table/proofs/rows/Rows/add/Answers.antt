use Rattle.std.proofs.Common.{◌≡◌, ◌<◌, length, get_or, arith}
use Rattle.std.proofs.lemmas.List.{get_or_read}
use Rattle.mx_types.specs.Limits.{most_handles}
use Rattle.mx_history.specs.declared.row.Row.{Row}
use Rattle.mx_history.specs.declared.row.Phase.TheVariants as phase
use Rattle.mx_table.proofs.Kept.{kept_added, places_few}
use Rattle.mx_table.proofs.SlotCounts.{count_few}
use Rattle.mx_table.proofs.rows.Rows.add.Goals as goal

pub overflow_add-self : goal.overflow_add-self
overflow_add-self c = record { fits = omega (arith, c.places.ensures.few, c.self.invariant.0.due, c.self.invariant.0.few, places_few c.self.inside.rows.items) }

pub overflow_add-index_mut : goal.overflow_add-index_mut
overflow_add-index_mut c =
    let counts = c.self.inside.slot_counts.items in
    let kept = c.self.invariant.0 in
    let small : c.from.result < most_handles = omega (arith, c.from.ensures, c.lowest_free-slot.type_inv) in
    let now = get_or_read counts c.from.result c.index_mut.result.now (omega (arith, small, kept.slots.each)) c.index_mut.ensures.value 0 in
    record { fits = omega (arith, now, kept.few, count_few counts c.self.inside.rows.items c.from.result kept.slots small) }

pub invariant_of-self : goal.invariant_of-self
invariant_of-self c =
    let counts = c.self.inside.slot_counts.items in
    let kept = c.self.invariant.0 in
    let small : c.from.result < length counts = omega (arith, c.from.ensures, c.lowest_free-slot.type_inv, kept.slots.each) in
    let now : c.index_mut.result.now ≡ get_or counts c.from.result 0 = get_or_read counts c.from.result c.index_mut.result.now small c.index_mut.ensures.value 0 in
    let row : Row = record { handle = c.args.handle; ticket = c.args.ticket; slot = c.lowest_free-slot.result; phase = phase.Running } in (
      rw (c.push_reserved.ensures.items, c.push_reserved-2.ensures.items, c.push_reserved-3.ensures.items, c.places.ensures.value, now, c.from.ensures)
          (kept_added c.self.inside.rows.items c.self.inside.handles.items c.self.inside.tickets.items c.self.inside.due counts row kept (rw (← c.self.view_is) at c.requires)),
      rw c.push_reserved.ensures.capacity c.self.invariant.1,
      rw c.push_reserved-2.ensures.capacity c.self.invariant.2,
      rw c.push_reserved-3.ensures.capacity c.self.invariant.3,
    )
