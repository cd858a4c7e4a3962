use Rattle.std.proofs.Common.{◌≡◌, ◌∙◌, ap, List, subst, sym}
use Rattle.mx_types.specs.declared.names.Ticket.{Ticket}
use Rattle.mx_types.specs.declared.origin.Origin.{Origin}
use Rattle.mx_journal.specs.Core.{claimed}
use Rattle.mx_journal.specs.Replies.{origins_added}
use Rattle.mx_lock.specs.Engine.{HasNoOther}
use Rattle.mx_lock.specs.Ties.{IsTied, Tells, tie_added}
use Rattle.mx_lock.proofs.Claims.{claims_added}
use Rattle.mx_lock.proofs.Tying.{tied_added, added_tells}
use Rattle.mx_lock.proofs.Queueing.{puts_added}
use Rattle.mx_lock.proofs.deeds.AdditionDeed.make.Goals as goal

pub returns-clause-makes : goal.returns-clause-makes
returns-clause-makes g c =
    let e = c.add-reply.ensures in
    let x = c.args.parts.now.core in
    let y = c.add-reply.new.self in
    let origin = g.Q.Work.origin c.args.self.work in
    let ties : c.tie_addition.new.ties.entries ≡ origins_added c.add-reply.result c.args.parts.now.ties.entries origin =
    c.tie_addition.ensures.ties ∙ ap (λ (w : g.row.Q.Denot). origins_added c.add-reply.result c.args.parts.now.ties.entries (g.Q.Work.origin w)) c.of-added.ensures in
    record {
      called = e.called;
      claims = subst (λ (q : List (Ticket × g.row.Q.Denot)). HasNoOther (claimed x.journal x.queue) (claimed y.journal q)) (sym e.queue)
          (claims_added x.opening c.args.who c.args.self.handle x.journal c.add-reply.result y.journal x.queue c.args.self.work e.called.answers);
      list = c.tie_addition.ensures.book;
      tied = subst (λ (l : List Origin). IsTied g.O.Ending.origin y l) (sym ties) (tied_added g.O.Ending.origin x y c.args.parts.now.ties.entries c.add-reply.result origin c.requires.tied e.origins e.own);
    }

pub returns-clause-tells : goal.returns-clause-tells
returns-clause-tells g c =
    let x = c.args.parts.now.core in
    let origin = g.Q.Work.origin c.args.self.work in
    let ties : c.tie_addition.new.ties.entries ≡ origins_added c.add-reply.result c.args.parts.now.ties.entries origin =
    c.tie_addition.ensures.ties ∙ ap (λ (w : g.row.Q.Denot). origins_added c.add-reply.result c.args.parts.now.ties.entries (g.Q.Work.origin w)) c.of-added.ensures in
    subst (Tells (tie_added c.add-reply.result origin)) (sym ties)
    (added_tells g.O.Ending.origin c.args.who c.args.self.handle x c.add-reply.new.self.journal c.args.parts.now.ties.entries c.add-reply.result origin c.requires.tied c.sound.ensures.origins.0 c.add-reply.ensures.called.answers)

pub returns-clause-work : goal.returns-clause-work
returns-clause-work g c = puts_added _ _ c.add-reply.result c.args.self.work c.add-reply.ensures.queue c.add-reply.ensures.endings
