use Rattle.mx_exchange.proofs.hops.Hop.location.Goals as goal

pub returns-in_err-place-clause-wire : goal.returns-in_err-place-clause-wire
returns-in_err-place-clause-wire c = rw (← c.self.view_is) c.self.invariant.outcome.location

pub returns-clause-wire : goal.returns-clause-wire
returns-clause-wire c = rw (← c.self.view_is) c.self.invariant.outcome.location
