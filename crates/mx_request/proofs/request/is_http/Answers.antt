use Rattle.std.proofs.Common.{rules}
use Rattle.mx_request.proofs.request.is_http.Goals as goal

pub returns : goal.returns
returns c = search rules
