use Rattle.std.proofs.Common.{rules}
use Rattle.mx_run_io.proofs.output.Output.flush.Goals as goal

pub returns-clause-flushed : goal.returns-clause-flushed
returns-clause-flushed g c = search rules
