use Rattle.mx_history.proofs.Messages.{first_in_first_out}
use Rattle.mx_history.proofs.laws.first_in_first_out.Goals as goal

pub returns : goal.returns
returns c = first_in_first_out
