use Rattle.mx_history.proofs.SlotLaws.{slots_differ}
use Rattle.mx_history.proofs.laws.slots_differ.Goals as goal

pub returns : goal.returns
returns c = slots_differ
