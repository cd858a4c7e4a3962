use Rattle.mx_turn.proofs.Looks.{what_has_started}
use Rattle.mx_turn.proofs.laws.holds_what_has_started.Goals as goal

pub returns : goal.returns
returns g c = what_has_started _ _
