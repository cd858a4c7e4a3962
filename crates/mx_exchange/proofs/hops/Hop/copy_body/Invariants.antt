use Rattle.std.proofs.Common.{◌≡◌, take}
use Rattle.mx_body.specs.Parts.{joined}
use Rattle.mx_exchange.proofs.hops.Hop.copy_body.Given as goal

abbrev pub invariant-loop-i : goal.invariant-loop-i
invariant-loop-i l = l.body.items ≡ joined l.self.kept (take l.i l.self.parts)
