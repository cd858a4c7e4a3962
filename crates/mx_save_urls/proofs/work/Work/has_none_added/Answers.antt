use Rattle.std.proofs.Common.{subst}
use Rattle.std.specs.Prelude.{◌↔◌, IsTrue}
use Rattle.mx_save_book.specs.Books.{HasNoneAdded}
use Rattle.mx_save_urls.proofs.work.Work.has_none_added.Goals as goal

pub returns : goal.returns
returns g c = subst (λ w. IsTrue c.has_none_added.result ↔ HasNoneAdded w.book.slots) c.self.view_is c.has_none_added.ensures
