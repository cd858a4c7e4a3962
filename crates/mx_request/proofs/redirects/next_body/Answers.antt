use Rattle.std.proofs.Common.{rules}
use Rattle.mx_request.proofs.redirects.next_body.Goals as goal

pub returns-then-becomes_get : goal.returns-then-becomes_get
returns-then-becomes_get c = search rules
