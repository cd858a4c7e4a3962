use Rattle.mx_run_get.proofs.Texts.{run_told}
use Rattle.mx_run_get.proofs.explained.print_all.Goals as goal

pub returns-clause-bytes : goal.returns-clause-bytes
returns-clause-bytes g c =
    run_told c.print_file_limit.result _ _ _ _ _ _ c.in_ok-print_ends.ensures.bytes c.print_file_limit.ensures.bytes
