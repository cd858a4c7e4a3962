use Rattle.std.proofs.Common.{ap, subst, ◌∙◌}
use Rattle.mx_multi.specs.Seats.{MultiView}
use Rattle.mx_worker_turns.specs.WorkerSteps.{HasRun}
use Rattle.mx_worker.specs.Work.{IsDone, TallyView}
use Rattle.mx_worker.proofs.Tallies.{ran}
use Rattle.mx_worker.proofs.worker.run_worker.Goals as goal

pub returns-in-Ok-clause-ran : goal.returns-in-Ok-clause-ran
returns-in-Ok-clause-ran g c = λ _.
    let started = c.in-Ok.ensures.1 ∙ ap (λ (t : TallyView _ _). t.start) c.new.ensures in
    ran _ _ c.args.seat c.end.result.seat c.max_connects-limit.result c.in-Ok.tally.did _ _ _ _ _
    (c.max_connects-limit.ensures ∙ ap (λ (m : MultiView _ _). m.limits.max_connects) c.multi.ensures)
    (subst (λ (t : TallyView _ _). HasRun g.L.Link.history g.L.Link.token_of c.max_connects-limit.result t.did c.in-Ok.tally.did (g.G.Gate.said c.args.gate.now) (g.G.Gate.said c.run_at.new.gate)) c.new.ensures c.in-Ok.ensures.0)
    (subst (λ s. IsDone s c.end.result.seat c.in-Ok.tally.did) started c.end.ensures.done)
    c.end.ensures.counted
