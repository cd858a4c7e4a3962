use Rattle.mx_text.proofs.Telling as proof
use Rattle.mx_text.proofs.laws.texts_tell.Goals as goal

pub returns : goal.returns
returns c = proof.texts_tell
