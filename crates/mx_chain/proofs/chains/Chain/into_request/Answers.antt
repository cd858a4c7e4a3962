use Rattle.std.proofs.Common.{◌∙◌}
use Rattle.mx_chain.proofs.HopLemmas.{request_of_first, request_of_none}
use Rattle.mx_chain.proofs.chains.Chain.into_request.Goals as goal

pub returns-in-Some : goal.returns-in-Some
returns-in-Some g c =
    let leads = c.self.invariant.chain.leads (rw (← c.self.view_is) at c.requires) in
    rw (← c.self.view_is) (request_of_first _ _ _ _ _ leads c.in-Some.ensures)

pub returns-in-None : goal.returns-in-None
returns-in-None g c =
    let leads = c.self.invariant.chain.leads (rw (← c.self.view_is) at c.requires) in
    rw (← c.self.view_is) (c.into_request.ensures ∙ request_of_none _ _ _ _ leads c.in-None.ensures)
