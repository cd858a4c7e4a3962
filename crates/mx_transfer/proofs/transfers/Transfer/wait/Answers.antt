use Rattle.mx_transfer.proofs.Wakers.{Left-later}
use Rattle.mx_transfer.proofs.transfers.Transfer.wait.Goals as goal

pub returns-clause-left : goal.returns-clause-left
returns-clause-left g c = Left-later c.args.cx.now c.hear_deadline.new.cx c.register.new.self _ c.hear_deadline.ensures.kept c.register.ensures.left
