use Rattle.std.proofs.Common.{◌≡◌}
use Rattle.mx_save_book.proofs.BookSteps.{FirstTaken}
use Rattle.mx_save_book.proofs.book.Book.free_slot.Given as goal

abbrev pub invariant-loop-slot : goal.invariant-loop-slot
invariant-loop-slot g l = record {
  at : l.at ≡ l.slot-index;
  none : FirstTaken l.slot-items l.slot-index;
}
