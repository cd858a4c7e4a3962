use Rattle.std.proofs.Common.{subst, sym}
use Rattle.mx_save_urls.specs.Works.{OthersAreBroughtOn}
use Rattle.mx_save_urls.proofs.Waits.{waits_more}
use Rattle.mx_save_urls.proofs.work.Work.wait.Goals as goal

pub returns-clause-waits : goal.returns-clause-waits
returns-clause-waits g c =
    waits_more _ _ _ _ c.in_ok-add.ensures.added (subst (λ w. OthersAreBroughtOn c.args.at w.book.slots w.waiting) (sym c.self.view_is) c.requires.waits)
