use Rattle.mx_history.proofs.Placing.{placed_stays}
use Rattle.mx_history.proofs.laws.placed_stays.Goals as goal

pub returns : goal.returns
returns c = placed_stays
