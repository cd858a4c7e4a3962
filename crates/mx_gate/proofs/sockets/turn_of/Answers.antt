use Rattle.std.proofs.Common.{rules}
use Rattle.mx_gate.proofs.sockets.turn_of.Goals as goal

pub returns-then-is_stopped : goal.returns-then-is_stopped
returns-then-is_stopped c = search rules
