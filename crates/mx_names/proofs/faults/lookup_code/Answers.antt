use Rattle.std.proofs.Common.{rules}
use Rattle.mx_names.proofs.faults.lookup_code.Goals as goal

pub returns : goal.returns
returns c = search rules
