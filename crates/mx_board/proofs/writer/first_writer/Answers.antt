use Rattle.mx_board.proofs.Keeping.{begins}
use Rattle.mx_board.proofs.writer.first_writer.Goals as goal

pub new-requires-clause-rule : goal.new-requires-clause-rule
new-requires-clause-rule c = begins _ c.in_ok-first.ensures.sound
