use Rattle.std.proofs.Common.{rules}
use Rattle.mx_journal.proofs.retiring.stays.Goals as goal

pub returns-in-Wake : goal.returns-in-Wake
returns-in-Wake c = search rules
