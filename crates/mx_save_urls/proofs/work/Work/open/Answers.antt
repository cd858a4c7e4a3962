use Rattle.std.proofs.Common.{subst, sym}
use Rattle.mx_save_book.specs.Books.{Waits}
use Rattle.mx_save_urls.proofs.work.Work.open.Goals as goal

pub begin-requires-clause-waits : goal.begin-requires-clause-waits
begin-requires-clause-waits g c = subst (λ w. Waits w.book.slots c.args.at) (sym c.self.view_is) c.requires.stands
