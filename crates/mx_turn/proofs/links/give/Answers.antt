use Rattle.std.proofs.Common.{rules}
use Rattle.mx_turn.proofs.links.give.Goals as goal

pub attach-requires-clause-fresh : goal.attach-requires-clause-fresh
attach-requires-clause-fresh g c = search rules

pub returns-in-Ok : goal.returns-in-Ok
returns-in-Ok g c = search rules

pub returns-in-Err : goal.returns-in-Err
returns-in-Err g c = search rules
