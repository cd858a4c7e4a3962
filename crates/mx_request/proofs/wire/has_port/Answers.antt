use Rattle.std.proofs.Common.{rules}
use Rattle.mx_request.proofs.wire.has_port.Goals as goal

pub returns : goal.returns
returns c = search rules
