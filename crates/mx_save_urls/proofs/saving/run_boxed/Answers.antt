use Rattle.std.proofs.Common.{◌≡◌, false, subst, sym}
use Rattle.std.specs.Prelude.{OnOk}
use Rattle.mx_fetch.specs.declared.turned.Turned.TheVariants as how
use Rattle.mx_save_urls.specs.Asked.{AreAsked, HasTurned}
use Rattle.mx_save_urls.specs.Works.{AreBroughtOn}
use Rattle.mx_save_urls.proofs.Asked.{asked_none}
use Rattle.mx_fetch.proofs.Lists.{on_ok}
use Rattle.mx_save_urls.proofs.saving.run_boxed.Goals as goal

pub fetch_over_sockets-end-requires-clause-asked : goal.fetch_over_sockets-end-requires-clause-asked
fetch_over_sockets-end-requires-clause-asked g c κs within = λ asked.
    subst (λ r. (r.run.work.book.is_stopped ≡ false) × AreAsked r.run.work.book.asking r.run.work.book.slots asked × AreBroughtOn r.run.work.book.slots r.run.work.waiting)
    (sym c.in-Ok.ensures.ok)
    (c.requires.going, asked_none c.args.run.work.book.asking c.args.run.work.book.slots asked c.requires.none, c.requires.waits)

pub returns-in-Ok-clause-ended : goal.returns-in-Ok-clause-ended
returns-in-Ok-clause-ended g c =
    subst (λ r. OnOk c.fetch_over_sockets-end.result.stopped (HasTurned r.run.work how.AllEnded)) (sym c.into_inner-run.ensures)
    (on_ok c.fetch_over_sockets-end.result.stopped (λ h. h.1) c.fetch_over_sockets-end.ensures.ended)

pub returns-in-Ok-clause-going : goal.returns-in-Ok-clause-going
returns-in-Ok-clause-going g c =
    subst (λ r. OnOk c.fetch_over_sockets-end.result.stopped (r.run.work.book.is_stopped ≡ false)) (sym c.into_inner-run.ensures)
    (on_ok c.fetch_over_sockets-end.result.stopped (λ h. h.0) c.fetch_over_sockets-end.ensures.ended)
