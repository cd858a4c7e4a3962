use Rattle.std.proofs.Common.{subst, sym}
use Rattle.mx_save_book.specs.Books.{HasOpen}
use Rattle.mx_save_urls.specs.Works.{OthersAreBroughtOn}
use Rattle.mx_save_urls.proofs.Waits.{all_set}
use Rattle.mx_save_urls.proofs.work.Work.add.Goals as goal

pub add-requires : goal.add-requires
add-requires g c = record { begun = subst (λ w. HasOpen w.book.slots c.args.at) (sym c.self.view_is) c.requires.open }

pub returns-clause-waits : goal.returns-clause-waits
returns-clause-waits g c =
    all_set _ _ _ c.args.at _ c.add.ensures.added.is (λ job e. cc)
    (subst (λ w. OthersAreBroughtOn c.args.at w.book.slots w.waiting) (sym c.self.view_is) c.requires.waits)
