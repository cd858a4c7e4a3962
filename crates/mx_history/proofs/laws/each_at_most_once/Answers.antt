use Rattle.mx_history.proofs.LegalLaws.{each_at_most_once}
use Rattle.mx_history.proofs.laws.each_at_most_once.Goals as goal

pub returns : goal.returns
returns c = each_at_most_once
