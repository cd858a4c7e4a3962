use Rattle.std.proofs.Common.{rules, ◌<◌, ap, arith}
use Rattle.mx_board.specs.Progress.{NoteState}
use Rattle.mx_board.proofs.Noting.{splitting_keeps}
use Rattle.mx_board.proofs.progress.ProgressTable.split.Goals as goal

pub split_seat-requires : goal.split_seat-requires
split_seat-requires c =
    let several : 1 < c.seat.inside.seat.me.0.joined = omega (arith, c.requires.several, ap (λ (s : NoteState). s.joined) c.seat.view_is) in (
      search rules,
      omega (arith, c.self.invariant.0),
      λ s kept at. splitting_keeps _ s.words s.views c.seat.inside.seat.id c.seat.inside.seat.me.0 kept at several,
    )
