use Rattle.mx_history.proofs.Retiring.{retiring_keeps}
use Rattle.mx_history.proofs.laws.retiring_keeps.Goals as goal

pub returns : goal.returns
returns c = retiring_keeps
