use Rattle.std.proofs.Common.{map}
use Rattle.mx_run_get.proofs.Runs.{answers}
use Rattle.mx_run_get.proofs.run.run_get.Goals as goal

pub returns-clause-answered : goal.returns-clause-answered
returns-clause-answered g c = λ well.
    let run = c.try_get-output.result in
    answers g.W.Write.contents c.args.output run.output c.end_so-status.new.output c.args.options.timeout_ms c.args.options.max_redirects (map (λ u. u.now) c.args.urls.now) _
    run.status c.end_so-status.result c.try_get-output.ensures.printed c.try_get-output.ensures.first c.end_so-status.ensures.ended c.end_so-status.ensures.stopped well
