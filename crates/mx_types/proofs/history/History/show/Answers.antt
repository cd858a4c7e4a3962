use Rattle.std.proofs.Common.{rules}
use Rattle.mx_types.proofs.history.History.show.Goals as goal

pub returns : goal.returns
returns g c = search rules
