use Rattle.std.proofs.Common.{rules}
use Rattle.mx_save_rules.proofs.decision.is_success.Goals as goal

pub returns-then-status-ge200 : goal.returns-then-status-ge200
returns-then-status-ge200 c = search rules

pub returns-else-status-ge200 : goal.returns-else-status-ge200
returns-else-status-ge200 c = search rules
