use Rattle.std.proofs.Common.{refl, subst, sym}
use Rattle.mx_types.specs.declared.call.Call.TheVariants as call
use Rattle.mx_journal.specs.Replies.{reply_of_finish}
use Rattle.mx_append_log.specs.Log.{AreOfOneList}
use Rattle.mx_lock.specs.Engine.{Makes}
use Rattle.mx_lock.specs.Ties.{TieState}
use Rattle.mx_lock.proofs.Leaving.{makes_running}
use Rattle.mx_lock.proofs.Tying.{tied_finished}
use Rattle.mx_lock.proofs.Queueing.{puts_recorded}
use Rattle.mx_lock.proofs.deeds.FinishingDeed.make.Goals as goal

pub returns-clause-makes : goal.returns-clause-makes
returns-clause-makes g c =
    let e = c.finish-reply.ensures in
    let x = c.args.parts.now.core in
    let y = c.finish-reply.new.self in
    let d = c.args.self in
    let code = g.O.Ending.code_of d.ending in
    let size = g.O.Ending.size_of d.ending in
    let claim = c.into_parts-claim.result.0 in
    let marked = c.into_parts-claim.result.1.entries in
    let answer = reply_of_finish c.finish-reply.result in
    let ties = c.args.parts.now.ties in
    let one : AreOfOneList ties.entries marked = subst (λ (s : TieState). AreOfOneList s.entries marked) c.mark-all.ensures c.are_of_one_list.ensures in
    let tied = tied_finished g.O.Ending.origin x.opening c.args.who claim.ticket code size c.finish-reply.result x y ties.entries marked claim.origin c.requires.tied c.sound.ensures.sound.kept.legal c.sound.ensures.origins.0 one
    c.into_parts-claim.ensures.known e.called.answers e.origins e.called.unchanged e.own in
    let made = makes_running g.O.Ending.origin c.args.who (call.Finish claim.ticket code size) x y c.args.parts.now.log c.finish-reply.new.log ties answer e.called refl e.queue tied in
    subst (λ r. Makes g.O.Ending.origin c.args.who (call.Finish d.claim.ticket code size) x y c.args.parts.now.log c.finish-reply.new.log ties ties r) (sym c.tied_again.ensures.same)
    (subst (λ t. Makes g.O.Ending.origin c.args.who (call.Finish t code size) x y c.args.parts.now.log c.finish-reply.new.log ties ties answer) c.into_parts-claim.ensures.ticket made)

pub returns-clause-work : goal.returns-clause-work
returns-clause-work g c =
    let e = c.finish-reply.ensures in
    puts_recorded _ _ c.finish-reply.result c.tied_again.result c.into_parts-claim.result.0.ticket c.args.self.claim.ticket c.args.self.ending e.queue e.endings c.tied_again.ensures.same c.into_parts-claim.ensures.ticket
