use Rattle.mx_desk.proofs.Ties.{told_unread}
use Rattle.mx_desk.proofs.seats.read.Goals as goal

pub returns-in_err-message-clause-later : goal.returns-in_err-message-clause-later
returns-in_err-message-clause-later g c = told_unread c.args.seat.now c.next_end_within.new.seat c.in_err-message.ensures.unread
