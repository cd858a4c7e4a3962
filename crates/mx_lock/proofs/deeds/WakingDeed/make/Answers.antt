use Rattle.std.proofs.Common.{refl}
use Rattle.mx_types.specs.declared.call.Call.TheVariants as call
use Rattle.mx_journal.specs.Replies.{reply_of_wakeup}
use Rattle.mx_lock.proofs.Leaving.{makes_same}
use Rattle.mx_lock.proofs.Tying.{tied_same}
use Rattle.mx_lock.proofs.Queueing.{puts_none}
use Rattle.mx_lock.proofs.deeds.WakingDeed.make.Goals as goal

pub returns-clause-makes : goal.returns-clause-makes
returns-clause-makes g c =
    let e = c.wakeup.ensures in
    makes_same g.O.Ending.origin _ call.Wakeup _ _ _ _ _ (reply_of_wakeup c.wakeup.result) e.called refl e.queue
    (tied_same g.O.Ending.origin _ _ c.args.parts.now.ties.entries c.requires.tied e.origins e.endings)

pub returns-clause-work : goal.returns-clause-work
returns-clause-work g c = puts_none _ _ c.wakeup.ensures.queue c.wakeup.ensures.endings
