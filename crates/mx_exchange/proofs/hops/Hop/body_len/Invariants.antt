use Rattle.std.proofs.Common.{◌≡◌, take, length}
use Rattle.mx_body.specs.Parts.{joined}
use Rattle.mx_exchange.proofs.hops.Hop.body_len.Given as goal

abbrev pub invariant-loop-i : goal.invariant-loop-i
invariant-loop-i l = l.len ≡ length (joined l.self.kept (take l.i l.self.parts))
