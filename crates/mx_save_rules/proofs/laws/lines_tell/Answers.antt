use Rattle.mx_save_rules.proofs.Lines as proof
use Rattle.mx_save_rules.proofs.laws.lines_tell.Goals as goal

pub returns : goal.returns
returns c = proof.lines_tell
