use Rattle.mx_body.proofs.decoder.Decoder.stand.Goals as goal

pub returns-clause-exact : goal.returns-clause-exact
returns-clause-exact c = rw (← c.self.view_is) c.self.invariant.0
