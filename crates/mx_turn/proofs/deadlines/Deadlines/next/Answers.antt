use Rattle.std.proofs.Common.{arith}
use Rattle.std.proofs.lemmas.Grind.{common_steps}
use Rattle.mx_turn.proofs.deadlines.Deadlines.next.Goals as goal

pub returns-clause-least : goal.returns-clause-least
returns-clause-least c = grind (arith, common_steps)
