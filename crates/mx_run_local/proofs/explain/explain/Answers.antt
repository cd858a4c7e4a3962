use Rattle.mx_run_local.proofs.Explaining.{tells_read}
use Rattle.mx_run_local.proofs.explain.explain.Goals as goal

pub returns-clause-read : goal.returns-clause-read
returns-clause-read g c known left read whole =
    tells_read _ known left _ _ _ _ _ read whole c.told_of-told.ensures.short c.told_of-told.ensures.read c.print_told.ensures.told
