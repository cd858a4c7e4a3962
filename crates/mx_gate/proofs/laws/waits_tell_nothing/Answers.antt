use Rattle.mx_gate.proofs.ReadyLemmas as proof
use Rattle.mx_gate.proofs.laws.waits_tell_nothing.Goals as goal

pub returns : goal.returns
returns c = proof.waits_tell_nothing
