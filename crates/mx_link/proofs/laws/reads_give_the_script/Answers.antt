use Rattle.mx_link.proofs.ScriptLaws as proof
use Rattle.mx_link.proofs.laws.reads_give_the_script.Goals as goal

pub returns : goal.returns
returns c = proof.reads_give_the_script
