use Rattle.std.proofs.Common.{rules}
use Rattle.mx_board.proofs.queries.FindQuery.ask.Goals as goal

pub returns : goal.returns
returns c = search rules
