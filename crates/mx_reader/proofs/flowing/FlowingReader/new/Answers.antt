use Rattle.mx_reader.proofs.StateLemmas.{first_is}
use Rattle.mx_reader.proofs.flowing.FlowingReader.new.Goals as goal

pub invariant_of-result : goal.invariant_of-result
invariant_of-result c = first_is c.new.result _ _ c.new-2.result c.new.ensures.exact c.new.ensures.begins c.new-2.ensures

pub returns-clause-exact : goal.returns-clause-exact
returns-clause-exact c = (first_is c.new.result _ _ c.new-2.result c.new.ensures.exact c.new.ensures.begins c.new-2.ensures).reader
