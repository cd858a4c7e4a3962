use Rattle.std.proofs.Common.{rules}
use Rattle.mx_names.proofs.names.count.Goals as goal

pub returns : goal.returns
returns c = search rules
