use Rattle.std.proofs.Common.{arith}
use Rattle.std.proofs.lemmas.Grind.{common_steps}
use Rattle.mx_body.proofs.chunked.stretch.is_crlf_at.Goals as goal

pub returns-then-input-at-eq13-clause-there : goal.returns-then-input-at-eq13-clause-there
returns-then-input-at-eq13-clause-there c = grind (arith, common_steps)
