use Rattle.std.proofs.Common.{rules}
use Rattle.mx_table.proofs.table.Table.look.Goals as goal

pub returns-in-Some : goal.returns-in-Some
returns-in-Some c = search rules
