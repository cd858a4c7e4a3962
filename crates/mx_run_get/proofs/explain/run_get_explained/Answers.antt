use Rattle.std.proofs.Common.{◌≡◌, ◌≢◌, ap, arith, length, map, subst, sym, true}
use Rattle.std.specs.Prelude.{OnOk}
use Rattle.std.proofs.lemmas.List.{length-map}
use Rattle.mx_text.specs.Lines.{Writes}
use Rattle.mx_text.specs.Asking.{asked_for}
use Rattle.mx_run_io.specs.Ends.{Wrote, has_failed_write}
use Rattle.mx_run_get.proofs.Runs.{all_printed, answers, explains, first_printed}
use Rattle.mx_run_get.proofs.Texts.{no_more}
use Rattle.mx_run_get.specs.Asked.{asked_of}
use Rattle.mx_run_get.specs.Explained.{IsRunText}
use Rattle.mx_run_get.proofs.explain.run_get_explained.Goals as goal

pub end_told-status-requires-clause-few : goal.end_told-status-requires-clause-few
end_told-status-requires-clause-few g c =
    let urls = map (λ u. u.now) c.args.urls.now in
    let ends = c.get-output.result.printed.items in
    omega (
      arith,
      c.as_slice.ensures.len,
      ap length c.as_slice.ensures.value,
      no_more ends urls (length ends) asked_of (asked_for c.args.options.timeout_ms c.args.options.max_redirects) c.get-output.ensures.first.asked,
      length-map c.args.urls.now (λ u. u.now),
    )

pub returns-clause-answered : goal.returns-clause-answered
returns-clause-answered g c = λ well.
    let run = c.get-output.result in
    let is = c.get-output.ensures in
    let urls = map (λ u. u.now) c.args.urls.now in
    let count = subst (λ n. OnOk run.status (length run.printed.items ≡ n)) (sym (length-map c.args.urls.now (λ u. u.now))) is.all in
    let t = c.args.options.timeout_ms in
    let m = c.args.options.max_redirects in
    let Written = Wrote g.W.Write.contents c.args.output run.output in
    answers g.W.Write.contents c.args.output run.output c.end_told-status.new.output t m urls _ run.status c.end_told-status.result
    (all_printed t m urls run.printed.items Written run.status is.first count is.printed is.status) (first_printed t m urls run.printed.items Written run.status is.first is.stopped)
    c.end_told-status.ensures.ended c.end_told-status.ensures.stopped well

pub returns-clause-explained : goal.returns-clause-explained
returns-clause-explained g c = λ well told.
    let run = c.get-output.result in
    let is = c.get-output.ensures in
    let urls = map (λ u. u.now) c.args.urls.now in
    let count = subst (λ n. OnOk run.status (length run.printed.items ≡ n)) (sym (length-map c.args.urls.now (λ u. u.now))) is.all in
    let Told = Wrote g.E.Write.contents c.args.told.now c.end_told-status.new.told in
    explains g.W.Write.contents c.args.output run.output c.end_told-status.new.output c.args.options.timeout_ms c.args.options.max_redirects urls run.printed.items run.met_file_limit
    (has_failed_write c.end_told-status.new.output ≢ true) (has_failed_write c.end_told-status.new.told ≢ true) Told run.status c.end_told-status.result is.first count is.printed is.stopped
    is.status c.end_told-status.ensures.ended c.end_told-status.ensures.stopped
    (subst (λ ends. OnOk run.status (has_failed_write c.end_told-status.new.told ≢ true → Writes (IsRunText urls ends run.met_file_limit) Told)) c.as_slice.ensures.value
    c.end_told-status.ensures.told) c.end_told-status.ensures.cause well told
