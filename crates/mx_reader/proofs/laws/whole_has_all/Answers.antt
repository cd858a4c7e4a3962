use Rattle.mx_reader.proofs.AllProofs.{whole_has_all}
use Rattle.mx_reader.proofs.laws.whole_has_all.Goals as goal

pub returns : goal.returns
returns c = whole_has_all
