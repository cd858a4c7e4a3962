use Rattle.mx_history.proofs.Follows.{table_follows}
use Rattle.mx_history.proofs.laws.table_follows.Goals as goal

pub returns : goal.returns
returns c = table_follows
