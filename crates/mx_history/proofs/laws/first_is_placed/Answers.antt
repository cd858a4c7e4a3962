use Rattle.mx_history.proofs.Placing.{first_is_placed}
use Rattle.mx_history.proofs.laws.first_is_placed.Goals as goal

pub returns : goal.returns
returns c = first_is_placed
