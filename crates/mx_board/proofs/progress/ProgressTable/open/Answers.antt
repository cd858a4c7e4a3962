use Rattle.std.proofs.Common.{sym, subst, [], ◌∷◌, List, ℕ}
use Rattle.mx_board.specs.Progress.{IsKept, first_seat}
use Rattle.mx_board.proofs.Noting.{opening_keeps}
use Rattle.mx_board.proofs.progress.ProgressTable.open.Goals as goal

pub of_words-requires : goal.of_words-requires
of_words-requires c = subst (λ (ws : List ℕ). IsKept c.args.seats ws (first_seat c.args.seats ∷ [])) (sym c.requires.words) (opening_keeps c.args.seats)
