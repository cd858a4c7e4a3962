use Rattle.mx_message.proofs.Messages.{held_next}
use Rattle.mx_message.proofs.next.next_message.Goals as goal

pub returns-clause-message : goal.returns-clause-message
returns-clause-message g c = held_next _ _ _ _ _ _ c.know.ensures c.in_ok-message.ensures.message
