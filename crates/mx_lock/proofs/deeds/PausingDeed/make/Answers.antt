use Rattle.std.proofs.Common.{refl, subst, sym, Bool}
use Rattle.mx_types.specs.declared.call.Call.TheVariants as call
use Rattle.mx_journal.specs.Replies.{pausing_call, reply_of_pause}
use Rattle.mx_lock.specs.Engine.{Makes}
use Rattle.mx_lock.proofs.Leaving.{makes_same}
use Rattle.mx_lock.proofs.Tying.{tied_same}
use Rattle.mx_lock.proofs.Queueing.{puts_none}
use Rattle.mx_lock.proofs.deeds.PausingDeed.make.Goals as goal

pub returns-then-self-clause-makes : goal.returns-then-self-clause-makes
returns-then-self-clause-makes g c =
    let e = c.pause.ensures in
    let x = c.args.parts.now in
    let ties = x.ties in
    let reply = reply_of_pause c.pause.result in
    subst (λ (b : Bool). Makes g.O.Ending.origin c.args.who (pausing_call b c.args.self.handle) x.core c.pause.new.self x.log c.pause.new.log ties ties reply) (sym c.if-self.true)
    (makes_same g.O.Ending.origin _ (call.Pause c.args.self.handle) _ _ _ _ ties reply e.called refl e.queue (tied_same g.O.Ending.origin _ _ ties.entries c.requires.tied e.origins e.endings))

pub returns-clause-makes : goal.returns-clause-makes
returns-clause-makes g c =
    let e = c.unpause.ensures in
    let x = c.args.parts.now in
    let ties = x.ties in
    let reply = reply_of_pause c.unpause.result in
    subst (λ (b : Bool). Makes g.O.Ending.origin c.args.who (pausing_call b c.args.self.handle) x.core c.unpause.new.self x.log c.unpause.new.log ties ties reply) (sym c.if-self.false)
    (makes_same g.O.Ending.origin _ (call.Unpause c.args.self.handle) _ _ _ _ ties reply e.called refl e.queue (tied_same g.O.Ending.origin _ _ ties.entries c.requires.tied e.origins e.endings))

pub returns-then-self-clause-work : goal.returns-then-self-clause-work
returns-then-self-clause-work g c = puts_none _ _ c.pause.ensures.queue c.pause.ensures.endings

pub returns-clause-work : goal.returns-clause-work
returns-clause-work g c = puts_none _ _ c.unpause.ensures.queue c.unpause.ensures.endings
