use Rattle.std.proofs.Common.{rules}
use Rattle.mx_journal.proofs.pairs.insert_ticket.Goals as goal

pub returns-clause-items : goal.returns-clause-items
returns-clause-items g c = search rules
