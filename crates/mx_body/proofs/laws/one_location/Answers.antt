use Rattle.mx_body.proofs.LawLemmas.{one_location}
use Rattle.mx_body.proofs.laws.one_location.Goals as goal

pub returns : goal.returns
returns c input a b x y = one_location input a b x y
