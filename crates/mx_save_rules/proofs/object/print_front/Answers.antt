use Rattle.std.proofs.Common.{rules}
use Rattle.mx_save_rules.specs.Texts.{object_front}
use Rattle.mx_save_rules.proofs.object.print_front.Goals as goal

pub returns-clause-bytes : goal.returns-clause-bytes
unfolding object_front
returns-clause-bytes g c = search rules
