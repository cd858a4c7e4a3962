use Rattle.std.proofs.Common.{rules}
use Rattle.mx_request.proofs.fields.is_same_name.Goals as goal

pub returns : goal.returns
returns c = search rules
