use Rattle.std.proofs.Common.{rules}
use Rattle.mx_multi.proofs.founding.maker.Goals as goal

pub returns-then-worker : goal.returns-then-worker
returns-then-worker c = search rules
