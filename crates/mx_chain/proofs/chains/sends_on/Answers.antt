use Rattle.mx_chain.proofs.chains.sends_on.Goals as goal

pub returns-in-Ended : goal.returns-in-Ended
returns-in-Ended g c =
    rw c.in-Ended.is (record {
      status = c.in-Ended.hop.status;
      location = c.in-Ended.hop.location;
      has = c.know.ensures.status;
      tells = c.know.ensures.location;
      sends_is = c.sends_on-in-Ended.ensures;
    })
