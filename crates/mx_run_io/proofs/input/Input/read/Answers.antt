use Rattle.std.proofs.Common.{rules}
use Rattle.mx_run_io.proofs.input.Input.read.Goals as goal

pub returns-then-self-clause-asked : goal.returns-then-self-clause-asked
returns-then-self-clause-asked g c = search rules
