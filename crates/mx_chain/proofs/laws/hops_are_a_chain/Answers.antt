use Rattle.mx_chain.proofs.LawLemmas.{leads_at}
use Rattle.mx_chain.proofs.laws.hops_are_a_chain.Goals as goal

pub returns : goal.returns
returns c o is i before after b a = leads_at _ _ _ _ is.leads i before after b a
