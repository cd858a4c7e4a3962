use Rattle.std.proofs.Common.{rules}
use Rattle.mx_turn.proofs.deadlines.Deadline.is_before.Goals as goal

pub returns-then-self-other-2 : goal.returns-then-self-other-2
returns-then-self-other-2 c = search rules
