use Rattle.mx_worker.proofs.Tallies.{done_none}
use Rattle.mx_worker.proofs.tally.Tally.new.Goals as goal

pub invariant_of-result : goal.invariant_of-result
invariant_of-result g c = rw (c.of.ensures, c.new.ensures) (done_none c.args.seat)
