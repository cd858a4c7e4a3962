use Rattle.std.proofs.Common.{sym, ◌∙◌}
use Rattle.mx_run_get.proofs.Texts.{end_failed}
use Rattle.mx_run_get.proofs.explained.print_left.Goals as goal

pub returns-clause-bytes : goal.returns-clause-bytes
returns-clause-bytes g c =
    end_failed c.print_failure.result _ _ _ _ _ _ c.told-told.ensures.code (sym c.is_ok.ensures ∙ c.if-is_ok.false) c.told-told.ensures.reason
    c.print_failure.ensures.bytes
