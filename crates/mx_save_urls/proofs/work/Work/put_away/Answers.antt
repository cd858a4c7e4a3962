use Rattle.std.proofs.Common.{subst, sym}
use Rattle.mx_save_book.specs.Books.{HasOpen}
use Rattle.mx_save_urls.proofs.work.Work.put_away.Goals as goal

pub put_away-requires-clause-begun : goal.put_away-requires-clause-begun
put_away-requires-clause-begun g c = subst (λ w. HasOpen w.book.slots c.args.at) (sym c.self.view_is) c.requires.open
