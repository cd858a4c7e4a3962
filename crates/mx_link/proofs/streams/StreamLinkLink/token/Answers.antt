use Rattle.std.proofs.Common.{rules}
use Rattle.mx_link.proofs.streams.StreamLinkLink.token.Goals as goal

pub returns : goal.returns
returns g c = search rules
