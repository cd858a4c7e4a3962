use Rattle.mx_link.proofs.CountLaws as proof
use Rattle.mx_link.proofs.laws.faults_are_counted.Goals as goal

pub returns : goal.returns
returns c = proof.faults_are_counted
