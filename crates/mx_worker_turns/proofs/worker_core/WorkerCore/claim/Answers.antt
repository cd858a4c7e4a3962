use Rattle.std.proofs.Common.{rules, ap, ◌∙◌, ◌||◌}
use Rattle.mx_turn.specs.Workers.{in_hand}
use Rattle.mx_turn.specs.Turn.{claims_one}
use Rattle.mx_worker_turns.specs.WorkerSteps.{WorkerView}
use Rattle.mx_worker_turns.proofs.Looking.{alike}
use Rattle.mx_worker_turns.proofs.Turning.{has_room_so}
use Rattle.mx_worker_turns.proofs.worker_core.WorkerCore.claim.Goals as goal

pub returns-clause-claims : goal.returns-clause-claims
returns-clause-claims g c =
    let is = c.hold.ensures.held in
    let goes = c.go_on_if.ensures.goes_on in
    let room = has_room_so _ c.hold.new.self.worker c.in-Some.claimed.held c.has_room-has_room.result _ (ap (λ (d : WorkerView _ _). in_hand d.worker) c.self-2.view_is) (ap (λ (d : WorkerView _ _). d.worker) is) c.has_room-has_room.ensures in
    rw (← c.self.view_is)
    (claims_one c.in-Some.claimed.held c.has_room-has_room.result c.if-self.false (search rules) c.know.ensures room
    (alike _ _ (ap (λ (d : WorkerView _ _). d.worker.held) goes ∙ ap (λ (d : WorkerView _ _). d.worker.held) is)
    (ap (λ (d : WorkerView _ _). d.worker.set_aside) goes ∙ ap (λ (d : WorkerView _ _). d.worker.set_aside) is)
    (ap (λ (d : WorkerView _ _). d.worker.idle) goes ∙ ap (λ (d : WorkerView _ _). d.worker.idle) is)
    (ap (λ (d : WorkerView _ _). d.worker.is_stopping) goes ∙ ap (λ (d : WorkerView _ _). d.worker.is_stopping) is)
    (ap (λ (d : WorkerView _ _). d.worker.can_go_on) goes ∙ ap (λ (d : WorkerView _ _). d.worker.can_go_on || c.has_room-has_room.result) is)
    (ap (λ (d : WorkerView _ _). d.worker.did) goes ∙ ap (λ (d : WorkerView _ _). d.worker.did) is ∙ c.in-Some.ensures.did)
    (ap (λ (d : WorkerView _ _). d.worker.said) goes ∙ ap (λ (d : WorkerView _ _). d.worker.said) is)))
