use Rattle.std.proofs.Common.{rules}
use Rattle.mx_table.proofs.table.Table.has_space_for.Goals as goal

pub returns-in-Added : goal.returns-in-Added
returns-in-Added c = search rules
