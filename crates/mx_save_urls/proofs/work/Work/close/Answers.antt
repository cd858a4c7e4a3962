use Rattle.std.proofs.Common.{subst, sym}
use Rattle.std.proofs.lemmas.Result.{IfOk-weaker}
use Rattle.mx_save_book.specs.Books.{IsAwaited, IsClosed}
use Rattle.mx_fetch.proofs.Lists.{on_ok}
use Rattle.mx_save_urls.specs.Works.{AreBroughtOn}
use Rattle.mx_save_urls.proofs.Waits.{closed_on, left_none}
use Rattle.mx_save_urls.proofs.work.Work.close.Goals as goal

pub returns-clause-closed : goal.returns-clause-closed
returns-clause-closed g c =
    on_ok c.close.result
    (λ k. subst (λ w. IsClosed w.book.slots c.close.new.self.slots c.args.at) c.self.view_is k)
    c.close.ensures.slots

pub returns-clause-others : goal.returns-clause-others
returns-clause-others g c =
    let waits = subst (λ w. AreBroughtOn w.book.slots w.waiting) (sym c.self.view_is) c.requires.waits in
    on_ok c.close.result (λ k. closed_on _ _ _ c.args.at k waits) c.close.ensures.slots

pub returns-clause-none : goal.returns-clause-none
returns-clause-none g c =
    let waits = subst (λ w. AreBroughtOn w.book.slots w.waiting) (sym c.self.view_is) c.requires.waits in
    IfOk-weaker c.close.result _ _ (λ delay left. left_none _ _ _ c.args.at delay left waits) c.close.ensures.left

pub close-requires-clause-added : goal.close-requires-clause-added
close-requires-clause-added g c = subst (λ w. IsAwaited w.book.slots c.args.at) (sym c.self.view_is) c.requires.added
