use Rattle.std.proofs.Common.{rules}
use Rattle.mx_exchange.proofs.exchanges.Exchange.prepare.Goals as goal

pub returns : goal.returns
returns g c = search rules
