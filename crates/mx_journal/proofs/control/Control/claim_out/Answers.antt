use Rattle.std.proofs.Common.{rules}
use Rattle.mx_journal.proofs.control.Control.claim_out.Goals as goal

pub returns : goal.returns
returns g c = search rules
