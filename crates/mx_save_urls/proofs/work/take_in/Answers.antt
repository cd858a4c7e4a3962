use Rattle.std.proofs.Common.{◌∙◌, ap, sym, subst}
use Rattle.std.specs.Prelude.{IfSome, slice_get}
use Rattle.mx_request.specs.Request.{IsRequest}
use Rattle.mx_save_book.specs.Books.{IsJobFor}
use Rattle.mx_save_book.specs.Jobs.{Asks}
use Rattle.mx_save_urls.proofs.Works.{adds_standing, adds_then, match_some, not_skipped, skipped_on, stands_for}
use Rattle.mx_save_urls.proofs.Waits.{skipped_none, skipped_others, stands_others}
use Rattle.mx_save_urls.proofs.work.take_in.Goals as goal

pub returns-then-branch-clause-added : goal.returns-then-branch-clause-added
returns-then-branch-clause-added g c =
    let stands = match_some _ _ c.in_ok-request.field-0 c.in-Some.request c.in-Some.is c.in_ok-request.ensures.stands in
    adds_then c.args.book.now.slots c.admit.new.self.slots c.skip.new.self.slots
    (adds_standing c.args.book.now.slots c.admit.new.self.slots c.args.at c.args.url.items stands)
    (skipped_on c.admit.new.self.slots c.skip.new.self.slots c.args.at c.in_ok-skip.field-0 c.in_ok-skip.ensures.slots)

pub returns-clause-added : goal.returns-clause-added
returns-clause-added g c =
    let stands = match_some _ _ c.in_ok-request.field-0 c.in-Some.request c.in-Some.is c.in_ok-request.ensures.stands in
    adds_then c.args.book.now.slots c.admit.new.self.slots c.skip.new.self.slots
    (adds_standing c.args.book.now.slots c.admit.new.self.slots c.args.at c.args.url.items stands)
    (skipped_on c.admit.new.self.slots c.skip.new.self.slots c.args.at c.in_ok-skip.field-0 c.in_ok-skip.ensures.slots)

pub returns-clause-asked : goal.returns-clause-asked
returns-clause-asked g c =
    let book = c.args.book.now in
    let stands = match_some _ _ c.in_ok-request.field-0 c.in-Some.request c.in-Some.is c.in_ok-request.ensures.stands in
    let asked = subst (λ o. IfSome o (λ r. Asks book.asking c.args.url.items r × IsRequest r)) c.in-Some.is c.in_ok-request.ensures.asked in
    let is = stands_for book.asking book.slots c.admit.new.self.slots c.args.at c.args.url.items c.in-Some.request c.requires.free stands asked.0 in (
      subst (λ a. IsJobFor a c.skip.new.self.slots c.args.at c.in-Some.request) (sym (c.skip.ensures.run.asking ∙ c.admit.ensures.run.asking))
          (subst (λ l. IsJobFor book.asking l c.args.at c.in-Some.request) (sym (not_skipped c.admit.new.self.slots c.skip.new.self.slots c.args.at c.in_ok-skip.field-0 c.if-branch.false c.in_ok-skip.ensures.slots)) is),
      asked.1,
    )

pub returns-clause-stands : goal.returns-clause-stands
returns-clause-stands g c =
    let stands = match_some _ _ c.in_ok-request.field-0 c.in-Some.request c.in-Some.is c.in_ok-request.ensures.stands in (
      stands.job,
      ap (λ l. slice_get l c.args.at)
          (not_skipped c.admit.new.self.slots c.skip.new.self.slots c.args.at c.in_ok-skip.field-0 c.if-branch.false c.in_ok-skip.ensures.slots) ∙ stands.waits,
    )

pub returns-then-branch-clause-others : goal.returns-then-branch-clause-others
returns-then-branch-clause-others g c ws all =
    let stands = match_some _ _ c.in_ok-request.field-0 c.in-Some.request c.in-Some.is c.in_ok-request.ensures.stands in
    skipped_others _ _ ws c.args.at c.in_ok-skip.field-0 c.in_ok-skip.ensures.slots (stands_others _ _ ws c.args.at c.args.url.items stands all)

pub returns-then-branch-clause-none : goal.returns-then-branch-clause-none
returns-then-branch-clause-none g c ws all =
    let stands = match_some _ _ c.in_ok-request.field-0 c.in-Some.request c.in-Some.is c.in_ok-request.ensures.stands in
    skipped_none _ _ ws c.args.at c.in_ok-skip.field-0 c.if-branch.true c.in_ok-skip.ensures.slots (stands_others _ _ ws c.args.at c.args.url.items stands all)

pub returns-clause-others : goal.returns-clause-others
returns-clause-others g c ws all =
    let stands = match_some _ _ c.in_ok-request.field-0 c.in-Some.request c.in-Some.is c.in_ok-request.ensures.stands in
    skipped_others _ _ ws c.args.at c.in_ok-skip.field-0 c.in_ok-skip.ensures.slots (stands_others _ _ ws c.args.at c.args.url.items stands all)
