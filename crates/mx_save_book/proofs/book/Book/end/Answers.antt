use Rattle.mx_save_book.proofs.BookSteps.{ended_of, none_out_of, told_of, whole_of}
use Rattle.mx_save_book.proofs.book.Book.end.Goals as goal

pub returns-clause-told : goal.returns-clause-told
returns-clause-told g c = told_of _ _ _ _ c.self.view_is c.self.invariant

pub returns-clause-whole : goal.returns-clause-whole
returns-clause-whole g c = whole_of _ _ _ _ c.self.view_is c.self.invariant

pub returns-clause-ended : goal.returns-clause-ended
returns-clause-ended g c = ended_of _ _ _ _ c.self.view_is c.self.invariant

pub returns-clause-none_out : goal.returns-clause-none_out
returns-clause-none_out g c = none_out_of _ _ _ _ c.self.view_is c.self.invariant
