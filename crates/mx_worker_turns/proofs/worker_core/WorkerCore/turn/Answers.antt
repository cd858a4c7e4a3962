use Rattle.std.proofs.Common.{◌∙◌, ℕ, [], ◌∷◌, ◌++◌, ap}
use Rattle.mx_gate.specs.Said.{waited, is_stop}
use Rattle.mx_worker_turns.proofs.Turning.{turn_is}
use Rattle.mx_worker_turns.proofs.worker_core.WorkerCore.turn.Goals as goal

pub returns-clause-turn : goal.returns-clause-turn
returns-clause-turn g c =
    let waits = c.turn-turn.ensures.noted ∙ ap (λ (n : ℕ). g.G.Gate.said c.go_all-last.new.gate ++ waited n (is_stop c.turn-turn.result) ∷ []) c.wait_ms-wait.ensures in
    rw (← c.self.view_is)
    (turn_is _ _ _ c.relieve.new.self.worker c.claim.new.self.worker c.retry_all.new.self.worker c.go_all-last.new.self.worker c.hear.new.self.worker _ _ _ _ _ c.now-now.result c.go_all-last.result (is_stop c.turn-turn.result) c.now-now.ensures.noted c.relieve.ensures.relieves c.claim.ensures.claims c.retry_all.ensures.retries c.go_all-last.ensures.through waits c.hear.ensures.stops)
