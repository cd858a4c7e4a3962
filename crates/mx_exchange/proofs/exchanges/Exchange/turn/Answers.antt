use Rattle.std.proofs.Common.{◌∙◌}
use Rattle.mx_exchange.proofs.Advanced.{none_added, Turns-request, Turns-hop_limit, Turns-limit, Turns-ended, Turns-waits, Turns-asks, Turns-late, Turns-counted}
use Rattle.mx_exchange.proofs.HopLemmas.{held_all}
use Rattle.mx_exchange.proofs.exchanges.Exchange.turn.Goals as goal

pub returns-in-Ended-clause-value : goal.returns-in-Ended-clause-value
returns-in-Ended-clause-value g c = Turns-request _ _ _ _ c.in-Ended.ensures.turn

pub returns-in-Ended-clause-late : goal.returns-in-Ended-clause-late
returns-in-Ended-clause-late g c = Turns-late _ _ _ _ c.know.ensures.failed c.in-Ended.ensures.turn

pub returns-in-Asks-clause-again : goal.returns-in-Asks-clause-again
returns-in-Asks-clause-again g c = ((Turns-asks _ _ _ c.in-Asks.ensures.turn).1 ∙ c.requires)

pub returns-in-Asks-clause-same : goal.returns-in-Asks-clause-same
returns-in-Asks-clause-same g c = (Turns-asks _ _ _ c.in-Asks.ensures.turn).0

pub returns-in-Asks-clause-undecided : goal.returns-in-Asks-clause-undecided
returns-in-Asks-clause-undecided g c = (c.know-2.ensures.undecided ((Turns-asks _ _ _ c.in-Asks.ensures.turn).1 ∙ c.requires))

pub returns-in-Waits-clause-again : goal.returns-in-Waits-clause-again
returns-in-Waits-clause-again g c = ((Turns-waits _ _ _ c.in-Waits.ensures.turn).1 ∙ c.requires)

pub returns-in-Waits-clause-same : goal.returns-in-Waits-clause-same
returns-in-Waits-clause-same g c = (Turns-waits _ _ _ c.in-Waits.ensures.turn).0

pub returns-in-Waits-clause-undecided : goal.returns-in-Waits-clause-undecided
returns-in-Waits-clause-undecided g c = (c.know-2.ensures.undecided ((Turns-waits _ _ _ c.in-Waits.ensures.turn).1 ∙ c.requires))

pub returns-in-Ended-clause-ended : goal.returns-in-Ended-clause-ended
returns-in-Ended-clause-ended g c = Turns-ended _ _ _ _ c.in-Ended.ensures.turn

pub returns-in-Ended-clause-counted : goal.returns-in-Ended-clause-counted
returns-in-Ended-clause-counted g c = Turns-counted _ _ (c.know.ensures.served.received c.requires) _ _ (λ e. (c.know.ensures.unprobed e).1) c.in-Ended.ensures.turn

pub returns-in-Asks-clause-counted : goal.returns-in-Asks-clause-counted
returns-in-Asks-clause-counted g c = Turns-counted _ _ (c.know.ensures.served.received c.requires) _ _ (λ e. (c.know.ensures.unprobed e).1) c.in-Asks.ensures.turn

pub returns-in-Waits-clause-counted : goal.returns-in-Waits-clause-counted
returns-in-Waits-clause-counted g c = (Turns-counted _ _ (c.know.ensures.served.received c.requires) _ _ (λ e. (c.know.ensures.unprobed e).1) c.in-Waits.ensures.turn)

pub returns-in-Asks-clause-limit : goal.returns-in-Asks-clause-limit
returns-in-Asks-clause-limit g c = (Turns-limit _ _ _ _ c.in-Asks.ensures.turn, tt)

pub returns-in-Asks-clause-held : goal.returns-in-Asks-clause-held
returns-in-Asks-clause-held g c none = none_added _ _ _ _ (c.know.ensures.held none) (c.know-2.ensures.held (Turns-limit _ _ _ _ c.in-Asks.ensures.turn ∙ none)) c.in-Asks.ensures.handed

pub returns-in-Waits-clause-limit : goal.returns-in-Waits-clause-limit
returns-in-Waits-clause-limit g c = (Turns-limit _ _ _ _ c.in-Waits.ensures.turn, tt)

pub returns-in-Waits-clause-held : goal.returns-in-Waits-clause-held
returns-in-Waits-clause-held g c none = none_added _ _ _ _ (c.know.ensures.held none) (c.know-2.ensures.held (Turns-limit _ _ _ _ c.in-Waits.ensures.turn ∙ none)) c.in-Waits.ensures.handed

pub returns-in-Ended-clause-limit : goal.returns-in-Ended-clause-limit
returns-in-Ended-clause-limit g c = (Turns-limit _ _ _ _ c.in-Ended.ensures.turn, Turns-hop_limit _ _ _ _ c.in-Ended.ensures.turn)

pub returns-in-Ended-clause-held : goal.returns-in-Ended-clause-held
returns-in-Ended-clause-held g c none =
    none_added _ _ _ _ (c.know.ensures.held none) (held_all _ c.know-in-Ended.ensures (Turns-hop_limit _ _ _ _ c.in-Ended.ensures.turn ∙ none)).0 c.in-Ended.ensures.handed
