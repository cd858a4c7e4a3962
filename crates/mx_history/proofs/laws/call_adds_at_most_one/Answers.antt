use Rattle.mx_history.proofs.Placing.{call_adds_at_most_one}
use Rattle.mx_history.proofs.laws.call_adds_at_most_one.Goals as goal

pub returns : goal.returns
returns c = call_adds_at_most_one
