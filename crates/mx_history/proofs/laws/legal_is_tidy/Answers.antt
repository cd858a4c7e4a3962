use Rattle.mx_history.proofs.LegalLaws.{legal_is_tidy}
use Rattle.mx_history.proofs.laws.legal_is_tidy.Goals as goal

pub returns : goal.returns
returns c = legal_is_tidy
