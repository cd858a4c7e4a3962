use Rattle.mx_multi.proofs.Runs.{later_none, later_more, later_sees}
use Rattle.mx_multi.proofs.multi.Multi.runs_go_on.Goals as goal

pub returns-clause-more : goal.returns-clause-more
returns-clause-more g c = λ s t u more call reply run h. later_more s t u more call reply run h

pub returns-clause-sees : goal.returns-clause-sees
returns-clause-sees g c = λ s t u more run h. later_sees s t u more run h

pub returns-clause-none : goal.returns-clause-none
returns-clause-none g c = λ s. later_none s
