use Rattle.std.proofs.Common.{rules}
use Rattle.mx_table.proofs.table.Table.made.Goals as goal

pub returns : goal.returns
returns c = search rules
