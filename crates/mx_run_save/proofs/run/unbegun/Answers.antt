use Rattle.mx_run_save.proofs.Runs.{out_of_memory}
use Rattle.mx_run_save.proofs.run.unbegun.Goals as goal

pub returns-then-status-eq-OUT_OF_MEMORY : goal.returns-then-status-eq-OUT_OF_MEMORY
returns-then-status-eq-OUT_OF_MEMORY g c = out_of_memory c.args.save.now c.end_unbegun.result c.end_unbegun.ensures.any c.end_unbegun.ensures.lines
