use Rattle.std.proofs.Common.{rules}
use Rattle.mx_save_rules.specs.Texts.{object_back}
use Rattle.mx_save_rules.proofs.object.print_back.Goals as goal

pub returns-clause-bytes : goal.returns-clause-bytes
unfolding object_back
returns-clause-bytes g c = search rules
