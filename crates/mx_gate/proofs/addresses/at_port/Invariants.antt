use Rattle.std.proofs.Common.{take}
use Rattle.mx_gate.specs.Dials.{AreAt}
use Rattle.mx_gate.proofs.addresses.at_port.Given as goal

abbrev pub invariant-loop-address : goal.invariant-loop-address
invariant-loop-address l = AreAt l.port (take l.address-index l.addresses) l.all.items
