use Rattle.std.proofs.Common.{subst}
use Rattle.std.specs.Prelude.{All}
use Rattle.std.proofs.lemmas.List.Elements.{All-map}
use Rattle.mx_turn.specs.Engines.{HeldView}
use Rattle.mx_turn.specs.Workers.{Held}
use Rattle.mx_worker_turns.specs.Picks.{Bounds}
use Rattle.mx_worker_turns.proofs.worker_core.WorkerCore.least_deadline.Goals as goal

pub returns : goal.returns
returns g c = rw (← c.self.view_is)
    (subst (All (λ (h : Held _). Bounds c.least_deadline.result h.transfer.now.deadline)) c.held.ensures
    (All-map (λ (h : Held _). Bounds c.least_deadline.result h.transfer.now.deadline) (λ (h : HeldView _). h.held) c.held.result.now.items c.least_deadline.ensures))
