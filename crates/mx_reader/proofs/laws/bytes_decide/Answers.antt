use Rattle.mx_reader.proofs.OneProofs.{one_judgement}
use Rattle.mx_reader.proofs.laws.bytes_decide.Goals as goal

pub returns : goal.returns
returns c = one_judgement
