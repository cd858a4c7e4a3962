use Rattle.std.proofs.Common.{arith}
use Rattle.std.proofs.lemmas.Grind.{common_steps}
use Rattle.mx_body.proofs.whole.is_too_large.Goals as goal

pub returns-clause-too_many : goal.returns-clause-too_many
returns-clause-too_many c = grind (arith, common_steps)

pub returns-clause-few : goal.returns-clause-few
returns-clause-few c = grind (arith, common_steps)
