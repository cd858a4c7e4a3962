use Rattle.std.proofs.Common.{rules}
use Rattle.mx_request.proofs.wire.put_body.Goals as goal

pub returns-in-Some : goal.returns-in-Some
returns-in-Some c = search rules
