use Rattle.mx_history.proofs.LegalLaws.{ready_stays}
use Rattle.mx_history.proofs.laws.ready_stays.Goals as goal

pub returns : goal.returns
returns c = ready_stays
