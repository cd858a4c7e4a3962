use Rattle.mx_history.proofs.LegalLaws.{answer_is_legal}
use Rattle.mx_history.proofs.laws.answer_is_legal.Goals as goal

pub returns : goal.returns
returns c = answer_is_legal
