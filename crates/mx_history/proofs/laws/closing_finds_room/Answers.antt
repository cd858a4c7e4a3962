use Rattle.mx_history.proofs.LegalLaws.{closing_finds_room}
use Rattle.mx_history.proofs.laws.closing_finds_room.Goals as goal

pub returns : goal.returns
returns c = closing_finds_room
