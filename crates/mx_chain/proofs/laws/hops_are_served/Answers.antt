use Rattle.mx_chain.proofs.LawLemmas.{served}
use Rattle.mx_chain.proofs.laws.hops_are_served.Goals as goal

pub returns : goal.returns
returns c o is i = served _ _ _ _ is.leads is.last i
