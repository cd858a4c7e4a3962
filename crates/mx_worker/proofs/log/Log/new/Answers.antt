use Rattle.mx_worker.proofs.Tallies.{counts_none}
use Rattle.mx_worker.proofs.log.Log.new.Goals as goal

pub invariant_of-result : goal.invariant_of-result
invariant_of-result g c = rw (c.new.ensures) counts_none
