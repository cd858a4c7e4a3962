use Rattle.mx_reader.proofs.CodeLemmas.{codes_are_listed}
use Rattle.mx_exchange.proofs.HopLemmas.{whole_of}
use Rattle.mx_exchange.proofs.hops.Hop.code.Goals as goal

pub returns-clause-whole : goal.returns-clause-whole
returns-clause-whole c = rw (← c.self.view_is) (whole_of codes_are_listed _ c.self.invariant.outcome)

pub returns-clause-body : goal.returns-clause-body
returns-clause-body c = rw (← c.self.view_is) (c.ok_has_body.ensures _ c.self.invariant.outcome)

pub returns-clause-content : goal.returns-clause-content
returns-clause-content c = rw (← c.self.view_is) (c.ok_has_content.ensures _ c.self.invariant.outcome)

pub returns-clause-listed : goal.returns-clause-listed
returns-clause-listed c = rw (← c.self.view_is) (c.codes_are_listed.ensures _ c.self.invariant.outcome)
