use Rattle.mx_exchange.proofs.hops.Hop.status.Goals as goal

pub returns-clause-wire : goal.returns-clause-wire
returns-clause-wire c = rw (← c.self.view_is) c.self.invariant.outcome.status
