use Rattle.mx_run_local.proofs.Printed.{ended_answers}
use Rattle.mx_run_local.proofs.body.run_body.Goals as goal

pub returns-clause-answered : goal.returns-clause-answered
returns-clause-answered g c alive whole =
    ended_answers _ _ _ _ _ _ _ _ (c.end.ensures.status alive) (c.end.ensures.bytes alive) (c.print_body-printed.ensures.answered whole)
