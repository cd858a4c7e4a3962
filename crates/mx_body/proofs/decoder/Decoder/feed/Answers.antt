use Rattle.mx_body.proofs.decoder.Decoder.feed.Goals as goal

pub returns-in_default-clause-exact : goal.returns-in_default-clause-exact
returns-in_default-clause-exact c = rw (← c.self.view_is) c.self.invariant.0

pub returns-clause-exact : goal.returns-clause-exact
returns-clause-exact c = c.in_ok-take.ensures.exact
