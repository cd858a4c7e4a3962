use Rattle.mx_history.proofs.Placing.{call_is_placed}
use Rattle.mx_history.proofs.laws.call_is_placed.Goals as goal

pub returns : goal.returns
returns c = call_is_placed
