use Rattle.mx_run_local.proofs.Words.{coded_is}
use Rattle.mx_run_local.proofs.script.coded.Goals as goal

pub returns : goal.returns
returns c = coded_is _ _ c.code_of.ensures
