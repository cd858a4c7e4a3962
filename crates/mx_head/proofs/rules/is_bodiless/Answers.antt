use Rattle.std.proofs.Common.{rules}
use Rattle.mx_head.proofs.rules.is_bodiless.Goals as goal

pub returns-then-status-eq204 : goal.returns-then-status-eq204
returns-then-status-eq204 c = search rules

pub returns-else-status-eq204 : goal.returns-else-status-eq204
returns-else-status-eq204 c = search rules
