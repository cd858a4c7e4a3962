use Rattle.mx_head.proofs.LawLemmas.{step_stays_same}
use Rattle.mx_head.proofs.laws.step_stays_same.Goals as goal

pub returns : goal.returns
returns c = step_stays_same
