use Rattle.mx_history.proofs.SlotStaying.{slot_stays}
use Rattle.mx_history.proofs.laws.slot_stays.Goals as goal

pub returns : goal.returns
returns c = slot_stays
