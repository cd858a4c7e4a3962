use Rattle.mx_head.proofs.LawLemmas.{one_step}
use Rattle.mx_head.proofs.laws.one_step.Goals as goal

pub returns : goal.returns
returns c = one_step
