use Rattle.mx_history.proofs.LegalLaws.{never_runs_again}
use Rattle.mx_history.proofs.laws.never_runs_again.Goals as goal

pub returns : goal.returns
returns c = never_runs_again
