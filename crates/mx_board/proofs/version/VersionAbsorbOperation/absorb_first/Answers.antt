use Rattle.std.proofs.Common.{rules}
use Rattle.mx_board.proofs.version.VersionAbsorbOperation.absorb_first.Goals as goal

pub returns-clause-absorbed : goal.returns-clause-absorbed
returns-clause-absorbed c = search rules
