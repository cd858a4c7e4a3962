use Rattle.std.proofs.Common.{rules}
use Rattle.mx_history.proofs.definitions.message_left.Goals as goal

pub returns-then-is_taken : goal.returns-then-is_taken
returns-then-is_taken c = search rules

pub returns-else-is_taken : goal.returns-else-is_taken
returns-else-is_taken c = search rules
