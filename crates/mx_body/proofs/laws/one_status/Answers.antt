use Rattle.mx_body.proofs.LawLemmas.{one_status, complete_status}
use Rattle.mx_body.proofs.laws.one_status.Goals as goal

pub returns-clause-one : goal.returns-clause-one
returns-clause-one c input a b x y = one_status input a b x y

pub returns-clause-complete : goal.returns-clause-complete
returns-clause-complete c m input ended v x = complete_status m input ended v x
