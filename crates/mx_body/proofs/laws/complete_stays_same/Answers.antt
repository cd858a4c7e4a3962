use Rattle.mx_body.proofs.LawLemmas.{complete_same}
use Rattle.mx_body.proofs.ResponseLemmas.{response_stays_same}
use Rattle.mx_body.proofs.laws.complete_stays_same.Goals as goal

pub returns-clause-same : goal.returns-clause-same
returns-clause-same c m input more ended v is x = complete_same m input more ended v is x

pub returns-clause-response : goal.returns-clause-response
returns-clause-response c m input more left ended later r open_end b = response_stays_same m input more left ended later r open_end b
