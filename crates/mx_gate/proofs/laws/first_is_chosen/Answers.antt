use Rattle.mx_gate.proofs.LawProofs as proof
use Rattle.mx_gate.proofs.laws.first_is_chosen.Goals as goal

pub returns : goal.returns
returns c = proof.first_is_chosen
