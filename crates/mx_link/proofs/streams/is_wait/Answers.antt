use Rattle.std.proofs.Common.{rules}
use Rattle.mx_link.proofs.streams.is_wait.Goals as goal

pub returns-in-WouldBlock : goal.returns-in-WouldBlock
returns-in-WouldBlock c = search rules

pub returns-in_default : goal.returns-in_default
returns-in_default c = search rules
