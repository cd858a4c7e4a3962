use Rattle.std.proofs.Common.{arith}
use Rattle.std.proofs.lemmas.Grind.{common_steps}
use Rattle.mx_link.proofs.streams.StreamLinkLink.try_connect.Goals as goal

pub returns-clause-called : goal.returns-clause-called
returns-clause-called g c = grind (arith, common_steps)
