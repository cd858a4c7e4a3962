use Rattle.std.proofs.Common.{arith, inr}
use Rattle.mx_gate.proofs.FirstLemmas.{notes_first}
use Rattle.mx_gate.proofs.sockets.SocketGate.begin_at.Goals as goal

pub returns-in-Ok-link_over-clause-dialled : goal.returns-in-Ok-link_over-clause-dialled
returns-in-Ok-link_over-clause-dialled g c = grind (arith, notes_first)

pub returns-in-Err-clause-undialled : goal.returns-in-Err-clause-undialled
returns-in-Err-clause-undialled g c = inr (grind (arith, notes_first))
