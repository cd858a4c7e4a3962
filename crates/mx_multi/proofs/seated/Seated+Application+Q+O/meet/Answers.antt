use Rattle.std.proofs.Common.{rules}
use Rattle.mx_multi.proofs.seated.Seated+Application+Q+O.meet.Goals as goal

pub returns-then-met-clause-meets : goal.returns-then-met-clause-meets
returns-then-met-clause-meets g c = search rules
