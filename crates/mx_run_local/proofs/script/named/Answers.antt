use Rattle.mx_run_local.proofs.Words.{named_is, not_named}
use Rattle.std.proofs.Common.{◌∙◌, ap}
use Rattle.mx_run_local.specs.Script.{named}
use Rattle.mx_run_local.proofs.script.named.Goals as goal

pub returns-in-Ok : goal.returns-in-Ok
returns-in-Ok c = named_is _ _ c.name_of.ensures ∙ ap named c.in-Ok.ensures.cases.0

pub returns-in-Err : goal.returns-in-Err
returns-in-Err c = not_named _ c.in-Err.ensures.cases.0
