use Rattle.mx_save_rules.proofs.Objects as proof
use Rattle.mx_save_rules.proofs.laws.each_is_one_line.Goals as goal

pub returns : goal.returns
returns c = proof.each_is_one_line
