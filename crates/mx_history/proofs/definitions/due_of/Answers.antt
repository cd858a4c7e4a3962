use Rattle.std.proofs.Common.{rules}
use Rattle.mx_history.proofs.definitions.due_of.Goals as goal

pub returns-clause-value : goal.returns-clause-value
returns-clause-value c = search rules
