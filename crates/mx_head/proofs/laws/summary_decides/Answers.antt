use Rattle.mx_head.proofs.SummaryLemmas.{summary_decides}
use Rattle.mx_head.proofs.laws.summary_decides.Goals as goal

pub returns : goal.returns
returns c = summary_decides
