use Rattle.std.proofs.Common.{arith}
use Rattle.mx_body.proofs.progress.Progress.told_bytes.Goals as goal

pub returns-then-all : goal.returns-then-all
returns-then-all c = omega (arith, c.if-all.true)
