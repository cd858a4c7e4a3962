use Rattle.std.proofs.Common.{arith, rules}
use Rattle.std.proofs.lemmas.Grind.{common_steps}
use Rattle.mx_line.proofs.lines.Line.probe.Goals as goal

pub returns-then-matches-clause-probed : goal.returns-then-matches-clause-probed
returns-then-matches-clause-probed g c = grind (arith, common_steps)

pub returns-clause-probed : goal.returns-clause-probed
returns-clause-probed g c = search rules

pub returns-clause-line : goal.returns-clause-line
returns-clause-line g c = search rules

pub returns-clause-token : goal.returns-clause-token
returns-clause-token g c = search rules

pub invariant_of-self-2 : goal.invariant_of-self-2
invariant_of-self-2 g c = search rules
