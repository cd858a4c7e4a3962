use Rattle.mx_link.proofs.CountLaws as proof
use Rattle.mx_link.proofs.laws.waits_are_counted.Goals as goal

pub returns : goal.returns
returns c = proof.waits_are_counted
