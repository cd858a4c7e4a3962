use Rattle.mx_request.proofs.NextLemmas.{joined_checked, next_err, next_ok}
use Rattle.mx_request.proofs.ToldLemmas.{next_allowed}
use Rattle.mx_request.proofs.request.Request.follow.Goals as goal

pub returns-in-Err : goal.returns-in-Err
returns-in-Err c = rw (← c.self.view_is) (next_err _ c.args.status c.args.location.now _ c.in-Err.ensures)

pub request_in_chain-requires-clause-checked : goal.request_in_chain-requires-clause-checked
request_in_chain-requires-clause-checked c = joined_checked _ _ _ c.in-Ok.ensures

pub request_in_chain-requires-clause-allowed : goal.request_in_chain-requires-clause-allowed
request_in_chain-requires-clause-allowed c = rw c.in_ok-settings.ensures (next_allowed c.args.status c.self.inside.method c.self.inside.settings c.self.invariant.allowed)

pub returns : goal.returns
returns c =
    rw (c.in_ok-request_in_chain.ensures.value, ← c.self.view_is)
    (next_ok _ c.args.status c.args.location.now _ _ _ _ c.in-Ok.ensures c.in_ok-first.ensures c.next_method.ensures c.in_ok-settings.ensures)
