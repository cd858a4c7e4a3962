use Rattle.mx_journal.proofs.Returns.{give_back_undoes_claim}
use Rattle.mx_journal.proofs.control.Control.give_back_undoes_claim.Goals as goal

pub returns : goal.returns
returns g c = give_back_undoes_claim g.row.Q.Denot
