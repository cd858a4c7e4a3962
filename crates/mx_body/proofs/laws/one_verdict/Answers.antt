use Rattle.mx_body.proofs.LawLemmas.{one_verdict}
use Rattle.mx_body.proofs.ResponseLemmas.{one_response}
use Rattle.mx_body.proofs.laws.one_verdict.Goals as goal

pub returns-clause-verdict : goal.returns-clause-verdict
returns-clause-verdict c m input ended v w x y = one_verdict m input ended v w x y

pub returns-clause-response : goal.returns-clause-response
returns-clause-response c m input ended r s left after x y = one_response m input ended ended r s left after x y
