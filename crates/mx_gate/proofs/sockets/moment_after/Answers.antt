use Rattle.std.proofs.Common.{rules}
use Rattle.mx_gate.proofs.sockets.moment_after.Goals as goal

pub returns : goal.returns
returns c = search rules
