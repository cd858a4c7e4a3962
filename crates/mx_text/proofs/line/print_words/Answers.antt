use Rattle.mx_text.proofs.Printed.{words_printed}
use Rattle.mx_text.proofs.line.print_words.Goals as goal

pub returns-clause-bytes : goal.returns-clause-bytes
returns-clause-bytes g c =
    words_printed c.print_back.result _ _ _ _ _ _ _ c.in_ok-print_front.ensures.bytes c.in_ok-print.ensures.bytes c.print_back.ensures.bytes
