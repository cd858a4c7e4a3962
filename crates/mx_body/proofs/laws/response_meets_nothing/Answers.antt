use Rattle.mx_body.proofs.ResponseLemmas.{response_meets_nothing}
use Rattle.mx_body.proofs.laws.response_meets_nothing.Goals as goal

pub returns : goal.returns
returns c m bytes ended r x q more cause e meets = response_meets_nothing m bytes ended r x q more cause e meets
