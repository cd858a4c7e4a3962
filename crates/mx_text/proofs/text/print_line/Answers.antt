use Rattle.mx_text.specs.Texts.{transfer_line}
use Rattle.mx_text.proofs.text.print_line.Goals as goal

pub returns-clause-bytes : goal.returns-clause-bytes
unfolding transfer_line
returns-clause-bytes g c = c.print.ensures.bytes
