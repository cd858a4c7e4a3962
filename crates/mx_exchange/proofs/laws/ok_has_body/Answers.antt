use Rattle.mx_reader.proofs.AllProofs.{whole_has_all}
use Rattle.mx_reader.proofs.CodeLemmas.{codes_are_listed}
use Rattle.mx_exchange.proofs.HopLemmas.{body_of}
use Rattle.mx_exchange.proofs.laws.ok_has_body.Goals as goal

pub returns : goal.returns
returns c = body_of whole_has_all codes_are_listed
