use Rattle.mx_request.proofs.BuiltLemmas.{next_is_request}
use Rattle.mx_request.proofs.laws.next_is_request.Goals as goal

pub returns : goal.returns
returns c = next_is_request
