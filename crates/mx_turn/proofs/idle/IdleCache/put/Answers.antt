use Rattle.std.proofs.Common.{arith, rules}
use Rattle.std.proofs.lemmas.Grind.{common_steps}
use Rattle.mx_turn.proofs.idle.IdleCache.put.Goals as goal

pub returns-then-self-eq0-clause-left : goal.returns-then-self-eq0-clause-left
returns-then-self-eq0-clause-left g c = grind (arith, common_steps)

pub returns-clause-links : goal.returns-clause-links
returns-clause-links g c = search rules

pub returns-clause-left : goal.returns-clause-left
returns-clause-left g c = search rules
