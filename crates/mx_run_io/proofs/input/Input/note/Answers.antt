use Rattle.std.proofs.Common.{rules}
use Rattle.mx_run_io.proofs.input.Input.note.Goals as goal

pub returns-clause-error : goal.returns-clause-error
returns-clause-error g c = search rules
