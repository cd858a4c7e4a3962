use Rattle.std.proofs.Common.{subst, sym}
use Rattle.mx_save_urls.specs.Works.{AreBroughtOn, IsListed}
use Rattle.mx_save_urls.proofs.Waits.{waits_less}
use Rattle.mx_save_urls.proofs.work.Work.again.Goals as goal

pub returns-in_default-clause-none : goal.returns-in_default-clause-none
returns-in_default-clause-none g c i job here =
    let waits = subst (λ w. AreBroughtOn w.book.slots w.waiting) (sym c.self.view_is) c.requires.waits in
    subst (λ ws. IsListed ws i) (sym c.in_default.ensures.popped.0) (waits i job here)

pub returns-clause-others : goal.returns-clause-others
returns-clause-others g c =
    let waits = subst (λ w. AreBroughtOn w.book.slots w.waiting) (sym c.self.view_is) c.requires.waits in
    waits_less _ _ _ _ _ c.in-Some.ensures.popped waits
