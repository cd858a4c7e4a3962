use Rattle.mx_history.proofs.AnswersFit.{answers_fit}
use Rattle.mx_history.proofs.laws.answers_fit.Goals as goal

pub returns : goal.returns
returns c = answers_fit
