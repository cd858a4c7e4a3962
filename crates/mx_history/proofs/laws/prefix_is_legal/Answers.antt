use Rattle.mx_history.proofs.LegalLaws.{prefix_is_legal}
use Rattle.mx_history.proofs.laws.prefix_is_legal.Goals as goal

pub returns : goal.returns
returns c = prefix_is_legal
