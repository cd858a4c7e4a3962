use Rattle.std.proofs.Common.{arith}
use Rattle.std.proofs.lemmas.Grind.{common_steps}
use Rattle.mx_body.proofs.whole.is_there.Goals as goal

pub returns-clause-there : goal.returns-clause-there
returns-clause-there c = grind (arith, common_steps)

pub returns-clause-lacking : goal.returns-clause-lacking
returns-clause-lacking c = grind (arith, common_steps)
