use Rattle.std.proofs.Common.{rules}
use Rattle.mx_table.proofs.table.Table.beyond.Goals as goal

pub returns : goal.returns
returns c = search rules
