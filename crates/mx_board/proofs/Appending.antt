-- An event is appended to a board, and its operation waits.
use Rattle.std.proofs.Common.{◌≡◌, ◌+◌, ◌<◌, ◌∙◌, List, [], ◌∷◌, ◌++◌, length, length-append, false, true, ap, refl, sym, arith}
use Rattle.std.proofs.lemmas.Bool.{false≢true}
use Rattle.mx_append_log.specs.Log.{Mark}
use Rattle.mx_types.specs.declared.event.Event.{Event}
use Rattle.mx_board.specs.declared.view.ReaderView.{ReaderView}
use Rattle.mx_board.specs.declared.operation.Operation.{Operation}
use Rattle.mx_board.specs.Board.{mark_of}
use Rattle.mx_board.specs.Published.{Shown, IsBoard, operation}

-- where nothing waited, the operation of the event waits then
pub appended : (shown : Shown) (place : ReaderView) (journal after : Mark Event) (e : Event) → IsBoard shown place [] journal false → length journal.entries < 4294967294 → after.book ≡ journal.book → after.entries ≡ journal.entries ++ e ∷ []
    → IsBoard shown place (operation e journal ∷ []) after false
appended shown place journal after e board few book more =
    let entries : journal.entries ≡ shown.1.entries = board.waits refl in
    let before : journal ≡ shown.1 = ap (λ j. mark_of j journal.book) entries ∙ ap (λ b. mark_of shown.1.entries b) (sym board.book) in
    record {
      sound = board.sound;
      book = board.book ∙ sym book;
      shown_to = board.shown_to;
      waits = λ _. (before, more ∙ ap (λ l. l ++ e ∷ []) entries);
      whole = λ broken. absurd (false≢true broken);
      few = omega (arith, few, ap length more, length-append journal.entries (e ∷ []));
    }

-- where the event wasn't appended behind it, the board is broken
pub breaks : (shown : Shown) (place : ReaderView) (pending : List Operation) (journal : Mark Event) → IsBoard shown place [] journal false → IsBoard shown place pending journal true
breaks shown place pending journal board = record {
  sound = board.sound;
  book = board.book;
  shown_to = board.shown_to;
  waits = λ whole. absurd (false≢true (sym whole));
  whole = λ _. board.waits refl;
  few = board.few;
}
