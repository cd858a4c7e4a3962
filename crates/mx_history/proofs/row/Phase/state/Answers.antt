use Rattle.std.proofs.Common.{rules}
use Rattle.mx_history.proofs.row.Phase.state.Goals as goal

pub returns-in-Paused : goal.returns-in-Paused
returns-in-Paused c = search rules
