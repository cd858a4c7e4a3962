use Rattle.std.proofs.Common.{rules}
use Rattle.mx_head.proofs.rules.keeps_by.Goals as goal

pub returns-after-coded : goal.returns-after-coded
returns-after-coded c = search rules

pub returns-else-keep_alive : goal.returns-else-keep_alive
returns-else-keep_alive c = search rules
