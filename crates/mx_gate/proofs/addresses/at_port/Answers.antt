use Rattle.std.proofs.Common.{arith}
use Rattle.mx_gate.proofs.FirstLemmas.{all_at_more}
use Rattle.mx_gate.proofs.addresses.at_port.Goals as goal

pub loop-address-preserved : goal.loop-address-preserved
loop-address-preserved c = grind (arith, all_at_more)
