use Rattle.mx_text.proofs.Printed.{failure_printed}
use Rattle.mx_text.proofs.line.print_failure.Goals as goal

pub returns-clause-bytes : goal.returns-clause-bytes
returns-clause-bytes g c =
    failure_printed c.print_hint.result _ _ _ _ _ _ _ _ c.number.ensures c.url_hint-hint.ensures c.in_ok-print_words.ensures.bytes
    c.print_hint.ensures.bytes
