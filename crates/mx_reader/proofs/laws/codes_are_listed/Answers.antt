use Rattle.mx_reader.proofs.CodeLemmas.{codes_are_listed}
use Rattle.mx_reader.proofs.laws.codes_are_listed.Goals as goal

pub returns : goal.returns
returns c = codes_are_listed
