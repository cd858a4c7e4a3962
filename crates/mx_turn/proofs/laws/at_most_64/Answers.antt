use Rattle.mx_turn.proofs.Within as proof
use Rattle.mx_turn.proofs.laws.at_most_64.Goals as goal

pub returns : goal.returns
returns g c = proof.at_most_64 _ _
