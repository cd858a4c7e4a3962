use Rattle.mx_request.proofs.NextLemmas.{chain_keeps}
use Rattle.mx_request.proofs.laws.chain_keeps.Goals as goal

pub returns : goal.returns
returns c = chain_keeps
