use Rattle.std.proofs.Common.{refl}
use Rattle.mx_types.specs.declared.call.Call.TheVariants as call
use Rattle.mx_journal.specs.Replies.{reply_of_remove}
use Rattle.mx_lock.proofs.Leaving.{makes_running}
use Rattle.mx_lock.proofs.Tying.{tied_on}
use Rattle.mx_lock.proofs.Queueing.{puts_removed}
use Rattle.mx_lock.proofs.deeds.RemovalDeed.make.Goals as goal

pub returns-clause-makes : goal.returns-clause-makes
returns-clause-makes g c =
    let e = c.remove.ensures in
    makes_running g.O.Ending.origin _ (call.Remove c.args.self.0) _ _ _ _ _ (reply_of_remove c.remove.result) e.called refl e.queue
    (tied_on g.O.Ending.origin _ _ c.args.parts.now.ties.entries c.requires.tied e.origins e.own)

pub returns-clause-work : goal.returns-clause-work
returns-clause-work g c = puts_removed _ _ c.remove.ensures.queue c.remove.ensures.endings
