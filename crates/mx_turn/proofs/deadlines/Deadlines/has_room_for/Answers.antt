use Rattle.std.proofs.Common.{rules}
use Rattle.mx_turn.proofs.deadlines.Deadlines.has_room_for.Goals as goal

pub returns-clause-room : goal.returns-clause-room
returns-clause-room c = search rules
