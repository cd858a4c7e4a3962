use Rattle.std.proofs.Common.{rules}
use Rattle.mx_request.proofs.redirects.sees_other.Goals as goal

pub returns-then-status-eq303 : goal.returns-then-status-eq303
returns-then-status-eq303 c = search rules
