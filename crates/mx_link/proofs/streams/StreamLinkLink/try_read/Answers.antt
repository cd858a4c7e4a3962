use Rattle.std.proofs.Common.{rules}
use Rattle.mx_link.proofs.streams.StreamLinkLink.try_read.Goals as goal

pub returns-clause-called : goal.returns-clause-called
returns-clause-called g c = search rules
