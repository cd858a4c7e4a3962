use Rattle.std.proofs.Common.{rules}
use Rattle.mx_board.proofs.answer.progress_by.Goals as goal

pub returns : goal.returns
returns c = search rules
