use Rattle.std.proofs.Common.{◌≡◌, ◌<◌, ◌∙◌, ap, get_or, arith}
use Rattle.std.specs.Prelude.{slice_index}
use Rattle.std.proofs.lemmas.List.{get_or_read}
use Rattle.mx_types.specs.Limits.{most_handles}
use Rattle.mx_table.proofs.Kept.{kept_removed}
use Rattle.mx_table.proofs.SlotCounts.{counted}
use Rattle.mx_table.proofs.rows.Rows.remove_at.Goals as goal

pub overflow_sub-index_mut : goal.overflow_sub-index_mut
overflow_sub-index_mut c =
    let counts = c.self.inside.slot_counts.items in
    let kept = c.self.invariant.0 in
    let row = c.remove-row.result in
    let small : row.slot < most_handles = omega (arith, c.remove-row.type_inv) in
    let now : c.index_mut.result.now ≡ get_or counts c.from.result 0 = get_or_read counts c.from.result c.index_mut.result.now (omega (arith, small, c.from.ensures, kept.slots.each)) c.index_mut.ensures.value 0 in
    omega (arith, now ∙ ap (slice_index counts) c.from.ensures, counted counts c.self.inside.rows.items c.args.at row kept.slots (rw (← c.self.view_is) at c.requires) c.remove-row.ensures.value small)

pub invariant_of-self : goal.invariant_of-self
invariant_of-self c =
    let counts = c.self.inside.slot_counts.items in
    let kept = c.self.invariant.0 in
    let row = c.remove-row.result in
    let small : row.slot < most_handles = omega (arith, c.remove-row.type_inv) in
    let now : c.index_mut.result.now ≡ get_or counts c.from.result 0 = get_or_read counts c.from.result c.index_mut.result.now (omega (arith, small, c.from.ensures, kept.slots.each)) c.index_mut.ensures.value 0 in (
      rw (c.remove-row.ensures.items, c.remove.ensures.items, c.remove-2.ensures.items, c.places.ensures.value, now, c.from.ensures)
          (kept_removed c.self.inside.rows.items c.self.inside.handles.items c.self.inside.tickets.items c.self.inside.due counts c.args.at row kept (rw (← c.self.view_is) at c.requires) c.remove-row.ensures.value),
      rw c.remove-row.ensures.capacity c.self.invariant.1,
      rw c.remove.ensures.capacity c.self.invariant.2,
      rw c.remove-2.ensures.capacity c.self.invariant.3,
    )
