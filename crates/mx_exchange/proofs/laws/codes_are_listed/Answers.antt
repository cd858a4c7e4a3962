use Rattle.mx_reader.proofs.CodeLemmas.{codes_are_listed}
use Rattle.mx_exchange.proofs.HopLemmas.{outcome_listed}
use Rattle.mx_exchange.proofs.laws.codes_are_listed.Goals as goal

pub returns : goal.returns
returns c = outcome_listed codes_are_listed
