use Rattle.mx_turn.proofs.Accounts.{accounted}
use Rattle.mx_turn.proofs.laws.each_claim_is_accounted.Goals as goal

pub returns : goal.returns
returns g c = accounted _ _
