use Rattle.mx_head.proofs.FaultLemmas.{head_meets_nothing}
use Rattle.mx_head.proofs.laws.head_meets_nothing.Goals as goal

pub returns : goal.returns
returns c = head_meets_nothing
