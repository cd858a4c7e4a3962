use Rattle.std.proofs.Common.{rules, ◌<◌, ◌++◌, ◌∷◌, [], refl, arith}
use Rattle.std.specs.Prelude.{slice_index}
use Rattle.mx_types.specs.Limits.{most_handles}
use Rattle.atomic_table.specs.Table.{keeps}
use Rattle.mx_board.specs.Progress.{note, view_with}
use Rattle.mx_board.proofs.Noting.{loading_keeps}
use Rattle.mx_board.proofs.progress.ProgressTable.read.Goals as goal

pub load-word-requires : goal.load-word-requires
load-word-requires c =
    let v = c.seat.inside.seat.me.0 in
    let slot : c.from.result < most_handles = omega (arith, c.from.ensures, c.ranges.slot.fits) in (
      search rules,
      omega (arith, c.self.invariant.0, slot),
      λ s kept homes at fits.
          let k = loading_keeps _ s.words s.views c.seat.inside.seat.id v c.from.result kept at slot in
          (view_with v v.noted (v.read ++ note c.from.result (slice_index s.words c.from.result) ∷ []), keeps, tt, k.0, (refl, k.1, k.2, k.3)),
    )
