use Rattle.mx_save_book.proofs.BookSteps.{left_or}
use Rattle.mx_save_book.proofs.book.discard.Goals as goal

pub returns-clause-left : goal.returns-clause-left
returns-clause-left g c = left_or _ c.discard-left.result.left c.args.ledger.now c.discard-left.new.self c.discard-left.ensures.left
