use Rattle.std.proofs.Common.{rules}
use Rattle.mx_save_rules.specs.Texts.{front_text}
use Rattle.mx_save_rules.proofs.line.print_front.Goals as goal

pub returns-clause-bytes : goal.returns-clause-bytes
unfolding front_text
returns-clause-bytes g c = search rules
