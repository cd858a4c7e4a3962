use Rattle.mx_request.proofs.PrivateLemmas.{private_stays_home}
use Rattle.mx_request.proofs.laws.private_stays_home.Goals as goal

pub returns : goal.returns
returns c = private_stays_home
