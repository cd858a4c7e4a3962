use Rattle.mx_text.proofs.Printed.{hint_printed}
use Rattle.mx_text.proofs.line.print_body_failure.Goals as goal

pub returns-clause-bytes : goal.returns-clause-bytes
returns-clause-bytes g c =
    hint_printed c.print_hint.result _ _ _ _ _ _ c.body_hint.ensures c.in_ok-print_told.ensures.bytes c.print_hint.ensures.bytes
