use Rattle.mx_history.proofs.States.{state_and_look_agree}
use Rattle.mx_history.proofs.laws.state_and_look_agree.Goals as goal

pub returns : goal.returns
returns c = state_and_look_agree
