use Rattle.std.proofs.Common.{rules, ◌+◌, ◌*◌, ◌<◌, ◌++◌, ◌∷◌, [], refl, arith}
use Rattle.mx_types.specs.Limits.{most_handles}
use Rattle.atomic_table.specs.Table.{keeps}
use Rattle.mx_board.specs.Progress.{note, view_with}
use Rattle.mx_board.proofs.Noting.{noting_keeps}
use Rattle.mx_board.proofs.progress.ProgressTable.note.Goals as goal

pub fetch_max-requires : goal.fetch_max-requires
fetch_max-requires c =
    let v = c.seat.inside.seat.me.0 in
    let slot : c.from-3.result < most_handles = omega (arith, c.from-3.ensures, c.ranges.slot.fits) in
    let word = c.from.result * 4294967296 + c.from-2.result in (
      search rules,
      omega (arith, c.self.invariant.0, slot),
      λ s kept homes at fits. (
        view_with v (v.noted ++ note c.from-3.result word ∷ []) v.read,
        keeps,
        tt,
        noting_keeps _ s.words s.views c.seat.inside.seat.id v c.from-3.result word kept at slot c.seat.invariant.1,
        refl,
      ),
    )

pub returns : goal.returns
returns c = search rules
