use Rattle.std.proofs.Common.{rules}
use Rattle.mx_request.proofs.request.is_body_too_large.Goals as goal

pub returns-in-Some : goal.returns-in-Some
returns-in-Some c = search rules
