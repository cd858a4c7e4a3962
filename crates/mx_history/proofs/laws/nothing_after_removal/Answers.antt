use Rattle.mx_history.proofs.LegalLaws.{nothing_after_removal}
use Rattle.mx_history.proofs.laws.nothing_after_removal.Goals as goal

pub returns : goal.returns
returns c = nothing_after_removal
