use Rattle.mx_save_rules.proofs.FirstCode as proof
use Rattle.mx_save_rules.proofs.laws.order_does_not_matter.Goals as goal

pub returns : goal.returns
returns c = proof.order_does_not_matter
