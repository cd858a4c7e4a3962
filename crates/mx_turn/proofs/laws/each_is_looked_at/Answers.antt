use Rattle.mx_turn.proofs.Looks.{looked_at_once}
use Rattle.mx_turn.proofs.laws.each_is_looked_at.Goals as goal

pub returns : goal.returns
returns g c = looked_at_once _ _
