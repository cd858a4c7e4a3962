use Rattle.std.proofs.Common.{sym, ◌∙◌}
use Rattle.mx_run_local.proofs.Explaining.{told_fault}
use Rattle.mx_run_local.proofs.explain.told_of_verdict.Goals as goal

pub returns-in-Fault : goal.returns-in-Fault
returns-in-Fault c bytes read = told_fault _ bytes _ _ _ (sym c.verdict.ensures ∙ c.in-Fault.is) (c.why.ensures bytes read)
