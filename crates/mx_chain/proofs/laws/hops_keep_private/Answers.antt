use Rattle.std.proofs.Common.{◌∙◌, subst}
use Rattle.std.specs.Prelude.{IfSome, Option}
use Rattle.mx_exchange.specs.Hops as hop
use Rattle.mx_exchange.specs.Exchanges.{HopValue}
use Rattle.mx_chain.proofs.LawLemmas.{served, chained}
use Rattle.mx_chain.proofs.laws.hops_keep_private.Goals as goal

pub returns : goal.returns
returns c o is i later at away name private =
    let ended = subst (λ (x : Option HopValue). IfSome x hop.IsHop) at (served _ _ _ _ is.leads is.last i) in
    let home = chained _ c.chain_keeps.ensures _ _ _ is.leads i later at in
    c.private_stays_home.ensures later.request ended.request (λ same. away (same ∙ home)) name private
