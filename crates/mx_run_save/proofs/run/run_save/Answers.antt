use Rattle.mx_run_save.proofs.Runs.{unasked}
use Rattle.mx_run_save.proofs.run.run_save.Goals as goal

pub unbegun-requires : goal.unbegun-requires
unbegun-requires g c = unasked c.args.save.now c.in-Err.status c.in-Err.ensures.status c.in-Err.ensures.unread c.in-Err.ensures.refused
