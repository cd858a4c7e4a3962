use Rattle.mx_request.proofs.BuiltLemmas.{built_is_request}
use Rattle.mx_request.proofs.laws.built_is_request.Goals as goal

pub returns : goal.returns
returns c = built_is_request
