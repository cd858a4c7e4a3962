use Rattle.mx_names.proofs.LawLemmas.{failures_are_told}
use Rattle.mx_names.proofs.laws.failures_are_told.Goals as goal

pub returns : goal.returns
returns c = failures_are_told
