use Rattle.std.proofs.Common.{rules}
use Rattle.mx_multi.proofs.multi.Multi.of_parts.Goals as goal

pub returns : goal.returns
returns g c = search rules
