use Rattle.std.proofs.Common.{rules, arith}
use Rattle.std.proofs.lemmas.Grind.{common_steps}
use Rattle.mx_board.proofs.progress.ProgressTable.new.Goals as goal

pub loop-made-preserved : goal.loop-made-preserved
loop-made-preserved c = grind (arith, common_steps)

pub returns-clause-each : goal.returns-clause-each
returns-clause-each c = grind (arith, common_steps)

pub loop-made-init : goal.loop-made-init
loop-made-init c = search rules
