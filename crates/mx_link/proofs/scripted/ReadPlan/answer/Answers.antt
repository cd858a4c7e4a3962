use Rattle.std.proofs.Common.{arith}
use Rattle.std.proofs.lemmas.Grind.{common_steps}
use Rattle.mx_link.proofs.scripted.ReadPlan.answer.Goals as goal

pub returns-clause-planned : goal.returns-clause-planned
returns-clause-planned c = grind (arith, common_steps)

pub invariant_of-self : goal.invariant_of-self
invariant_of-self c = grind (arith, common_steps)

pub returns-then-n-left-clause-planned : goal.returns-then-n-left-clause-planned
returns-then-n-left-clause-planned c = grind (arith, common_steps)
