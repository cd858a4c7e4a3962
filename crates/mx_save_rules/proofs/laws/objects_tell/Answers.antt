use Rattle.mx_save_rules.proofs.Objects as proof
use Rattle.mx_save_rules.proofs.laws.objects_tell.Goals as goal

pub returns : goal.returns
returns c = proof.objects_tell
