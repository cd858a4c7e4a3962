use Rattle.std.proofs.Common.{◌∙◌, ap, subst, sym}
use Rattle.std.specs.Prelude.{slice_get}
use Rattle.mx_request.specs.Request.{IsRequest}
use Rattle.mx_save_book.specs.Jobs.{Asks, CanAsk, job_at}
use Rattle.mx_save_book.specs.Books.{IsJobFor, Waits}
use Rattle.mx_save_book.proofs.book.Book.request.Goals as goal

pub unreachable-requires : goal.unreachable-requires
unreachable-requires g c =
    let was = c.self.invariant.going c.if-self.false in
    let there = ap (λ l. job_at l c.args.at) (sym c.as_slice.ensures.value) ∙ c.in-Some.ensures.job in
    let asks = (was.pending c.args.at c.in-Some.job.now there).asks in
    c.in_default-why.not-OutOfMemory (c.in-Err.ensures.why (subst (CanAsk c.self.inside.asking) (sym c.as_slice-2.ensures.value) asks))

pub returns-in-Ok-clause-request : goal.returns-in-Ok-clause-request
returns-in-Ok-clause-request g c =
    let made = c.in-Ok.ensures.made in
    subst (λ b. IsJobFor b.asking b.slots c.args.at c.in-Ok.request × IsRequest c.in-Ok.request) c.self.view_is (
      record {
        job = c.in-Some.job.now;
        there = ap (λ l. job_at l c.args.at) (sym c.as_slice.ensures.value) ∙ c.in-Some.ensures.job;
        asked = subst (λ u. Asks c.self.inside.asking u c.in-Ok.request) c.as_slice-2.ensures.value made.0;
      },
      made.1,
    )

pub returns-in-Ok-clause-waits : goal.returns-in-Ok-clause-waits
returns-in-Ok-clause-waits g c =
    subst (λ b. Waits b.slots c.args.at) c.self.view_is (c.in-Some.job.now, ap (λ l. slice_get l c.args.at) (sym c.as_slice.ensures.value) ∙ c.in-Some.ensures.waits)
