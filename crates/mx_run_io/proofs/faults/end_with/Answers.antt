use Rattle.std.proofs.Common.{rules}
use Rattle.mx_run_io.proofs.faults.end_with.Goals as goal

pub returns-clause-printed : goal.returns-clause-printed
returns-clause-printed g c = search rules
