use Rattle.std.proofs.Common.{◌∙◌, ap, subst, sym}
use Rattle.mx_journal.specs.Core.{Core}
use Rattle.mx_lock.specs.Engine.{EngineState}
use Rattle.mx_lock.proofs.Leaving.{leaves_by, log_is}
use Rattle.mx_lock.specs.Queues.{LeavesWork, PutsWork}
use Rattle.mx_lock.proofs.Queueing.{leaves_work}
use Rattle.mx_lock.proofs.engine.Engine.run.Goals as goal

pub make-reply-requires-clause-own : goal.make-reply-requires-clause-own
make-reply-requires-clause-own g c =
    rw c.deref_mut.ensures.value
    (subst (λ (x : EngineState g.row.Q.Denot g.row.O.Denot). g.D.Deed.own c.args.deed x.ties.book) (sym c.self.view_is) c.requires.own)

pub publish-engine-requires : goal.publish-engine-requires
publish-engine-requires g c =
    let m = rw c.deref_mut.ensures.value at c.make-reply.ensures.makes in
    (log_is c.self.inside.parts.value.core.opening _ _ _ _ _ _ _ m.called.answers c.self.invariant.0 m.called.logged, m.tied)

pub returns-clause-leaves : goal.returns-clause-leaves
returns-clause-leaves g c = leaves_by g.O.Ending.origin c.args.who _ _ c.args.self _ _ _ _ _ _ _ c.self.view_is c.publish-engine.ensures.is (rw c.deref_mut.ensures.value at c.make-reply.ensures.makes) c.publish-engine.ensures.sound.kept.legal

pub returns-clause-work : goal.returns-clause-work
returns-clause-work g c =
    let y = c.publish-engine.result in
    let moved = g.D.Deed.moved c.args.deed c.make-reply.result in
    let is = ap (λ (z : EngineState g.row.Q.Denot g.row.O.Denot). z.core) c.publish-engine.ensures.is in
    let put = subst (λ (z : Core g.row.Q.Denot g.row.O.Denot). PutsWork moved c.self.inside.parts.value.core z) (sym is) (rw c.deref_mut.ensures.value at c.make-reply.ensures.work) in
    subst (λ (x : EngineState g.row.Q.Denot g.row.O.Denot). LeavesWork moved x.core y.core) c.self.view_is
    (leaves_work g.O.Ending.code_of g.O.Ending.size_of _ moved _ y.core c.publish-engine.ensures.sound put)
