use Rattle.mx_exchange.proofs.Lives.{drops_once}
use Rattle.mx_exchange.proofs.laws.link_is_dropped_once.Goals as goal

pub returns : goal.returns
returns g c = drops_once _
