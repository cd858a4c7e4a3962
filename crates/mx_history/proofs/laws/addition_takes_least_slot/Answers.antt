use Rattle.mx_history.proofs.SlotLaws.{addition_takes_least_slot}
use Rattle.mx_history.proofs.laws.addition_takes_least_slot.Goals as goal

pub returns : goal.returns
returns c = addition_takes_least_slot
