use Rattle.std.proofs.Common.{rules}
use Rattle.mx_run_io.proofs.output.Output.end.Goals as goal

pub returns-in-Ok-clause-ends : goal.returns-in-Ok-clause-ends
returns-in-Ok-clause-ends g c = record { unwritten = search rules; flushed = search rules }
