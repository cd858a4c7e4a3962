use Rattle.std.proofs.Common.{rules}
use Rattle.mx_turn.proofs.idle.IdleCache.len.Goals as goal

pub returns-clause-count : goal.returns-clause-count
returns-clause-count g c = search rules
