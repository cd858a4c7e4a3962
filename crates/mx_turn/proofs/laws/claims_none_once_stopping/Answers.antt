use Rattle.mx_turn.proofs.Looks.{none_once_stopping}
use Rattle.mx_turn.proofs.laws.claims_none_once_stopping.Goals as goal

pub returns : goal.returns
returns g c = none_once_stopping _ _
