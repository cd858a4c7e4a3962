use Rattle.std.proofs.Common.{rules}
use Rattle.mx_exchange.proofs.exchanges.Exchange.wants.Goals as goal

pub returns-in-Live-clause-wants : goal.returns-in-Live-clause-wants
returns-in-Live-clause-wants g c = search rules
