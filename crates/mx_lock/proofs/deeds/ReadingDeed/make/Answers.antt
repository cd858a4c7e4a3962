use Rattle.std.proofs.Common.{refl, subst, sym}
use Rattle.mx_types.specs.declared.call.Call.TheVariants as call
use Rattle.mx_journal.specs.Core.{AreOwn}
use Rattle.mx_journal.specs.Replies.{reply_of_info}
use Rattle.mx_lock.proofs.Leaving.{makes_same}
use Rattle.mx_lock.proofs.Tying.{read_tells, tied_on}
use Rattle.mx_lock.proofs.Queueing.{puts_read}
use Rattle.mx_lock.proofs.deeds.ReadingDeed.make.Goals as goal

pub returns-clause-makes : goal.returns-clause-makes
returns-clause-makes g c =
    let e = c.info_read.ensures in
    makes_same g.O.Ending.origin _ call.InfoRead _ _ _ _ _ (reply_of_info g.O.Ending.code_of g.O.Ending.size_of c.info_read.result) e.called refl e.queue
    (tied_on g.O.Ending.origin _ _ c.args.parts.now.ties.entries c.requires.tied e.origins (λ own. (e.own own).0))

pub returns-clause-tells : goal.returns-clause-tells
returns-clause-tells g c =
    let t = c.requires.tied in
    read_tells g.O.Ending.origin c.args.parts.now.core c.args.parts.now.ties.entries c.info_read.result t
    (c.info_read.ensures.own (subst (λ l. AreOwn g.O.Ending.origin l c.args.parts.now.core.endings) (sym t.same) t.endings)).1

pub returns-clause-work : goal.returns-clause-work
returns-clause-work g c = puts_read _ _ c.info_read.result c.info_read.ensures.queue c.info_read.ensures.endings
