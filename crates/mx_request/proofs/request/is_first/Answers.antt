use Rattle.std.proofs.Common.{rules}
use Rattle.mx_request.proofs.request.is_first.Goals as goal

pub returns : goal.returns
returns c = search rules
