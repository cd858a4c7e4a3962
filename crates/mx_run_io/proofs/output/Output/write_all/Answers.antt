use Rattle.std.proofs.Common.{rules}
use Rattle.mx_run_io.proofs.output.Output.write_all.Goals as goal

pub returns-clause-bytes : goal.returns-clause-bytes
returns-clause-bytes g c = search rules
