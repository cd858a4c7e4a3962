use Rattle.mx_exchange.proofs.HopLemmas.{held_all}
use Rattle.mx_exchange.proofs.laws.held_has_all.Goals as goal

pub returns : goal.returns
returns c = held_all
