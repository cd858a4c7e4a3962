use Rattle.std.proofs.Common.{rules}
use Rattle.mx_board.proofs.same.same_event.Goals as goal

pub returns-then-same_who : goal.returns-then-same_who
returns-then-same_who c = search rules
