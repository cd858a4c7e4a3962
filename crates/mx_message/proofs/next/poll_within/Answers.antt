use Rattle.mx_message.proofs.Messages.{polled_or_not}
use Rattle.mx_message.proofs.next.poll_within.Goals as goal

pub returns-in-Ok-clause-waited : goal.returns-in-Ok-clause-waited
returns-in-Ok-clause-waited g c = polled_or_not _ _ c.in-Ok.field-0 _ c.in-Ok.ensures.polls
