use Rattle.std.proofs.Common.{refl}
use Rattle.mx_exchange.proofs.hops.Hop.new.Goals as goal

pub invariant_of-result : goal.invariant_of-result
invariant_of-result c = record { ordered = c.requires.ordered; within = c.requires.within; outcome = c.requires.outcome; reason = c.requires.reason }

pub returns : goal.returns
returns c = refl
