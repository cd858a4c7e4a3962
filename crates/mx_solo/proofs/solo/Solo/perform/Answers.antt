use Rattle.std.proofs.Common.{ap, sym, subst, ◌∙◌}
use Rattle.std.specs.Prelude.{IsSome}
use Rattle.mx_worker_turns.specs.WorkerSteps.{WorkerView}
use Rattle.mx_solo.specs.Seats.{SeatView}
use Rattle.mx_solo.proofs.Owning.{performs_own}
use Rattle.mx_solo.proofs.Steps.{performed, stays}
use Rattle.mx_solo.proofs.solo.Solo.perform.Goals as goal

pub returns-clause-performs : goal.returns-clause-performs
returns-clause-performs g c =
    let first = c.swap_engine-2.ensures.given.1 ∙ ap (λ (w : WorkerView _ _). w.start) c.turn_all.ensures.same ∙ ap (λ (w : WorkerView _ _). w.start) c.swap_engine.ensures.taken ∙ ap (λ (s : SeatView _). s.start) c.of-seat.ensures ∙ c.take.ensures.value in
    rw (← c.self.view_is)
    (performed g.L.Link.history g.L.Link.token_of c.self.inside.worker.worker c.swap_engine.new.self.worker c.turn_all.new.worker.worker c.swap_engine-2.new.self.worker _ _ _ _ _ _ _ _ c.self.invariant.1 (ap (λ (w : WorkerView _ _). w.worker) c.swap_engine.ensures.taken) (ap (λ (s : SeatView _). s.did) c.of-seat.ensures) c.turn_all.ensures.turns
    (ap (λ (w : WorkerView _ _). w.worker) c.swap_engine-2.ensures.taken) c.swap_engine-2.ensures.given.0 first c.into_core.ensures.done)

pub returns-clause-origins : goal.returns-clause-origins
returns-clause-origins g c =
    let first = c.swap_engine-2.ensures.given.1 ∙ ap (λ (w : WorkerView _ _). w.start) c.turn_all.ensures.same ∙ ap (λ (w : WorkerView _ _). w.start) c.swap_engine.ensures.taken ∙ ap (λ (s : SeatView _). s.start) c.of-seat.ensures ∙ c.take.ensures.value in
    rw (← c.self.view_is) (
    performs_own g.L.Link.history g.L.Link.token_of c.self.inside.worker.worker c.swap_engine.new.self.worker c.turn_all.new.worker.worker c.swap_engine-2.new.self.worker _ _ _ _ _ _ _ _ (ap (λ (w : WorkerView _ _). w.worker) c.swap_engine.ensures.taken) (ap (λ (s : SeatView _). s.did) c.of-seat.ensures) c.turn_all.ensures.turns
    (ap (λ (w : WorkerView _ _). w.worker) c.swap_engine-2.ensures.taken) c.swap_engine-2.ensures.given.0 first c.into_core.ensures.done c.self.invariant.2).1

pub invariant_of-self : goal.invariant_of-self
invariant_of-self g c =
    let first = c.swap_engine-2.ensures.given.1 ∙ ap (λ (w : WorkerView _ _). w.start) c.turn_all.ensures.same ∙ ap (λ (w : WorkerView _ _). w.start) c.swap_engine.ensures.taken ∙ ap (λ (s : SeatView _). s.start) c.of-seat.ensures ∙ c.take.ensures.value in
    let of = ap (λ (w : WorkerView _ _). w.of) c.swap_engine-2.ensures.taken ∙ ap (λ (w : WorkerView _ _). w.of) c.turn_all.ensures.same ∙ ap (λ (w : WorkerView _ _). w.of) c.swap_engine.ensures.taken ∙ c.self.invariant.0 in
    let own = performs_own g.L.Link.history g.L.Link.token_of c.self.inside.worker.worker c.swap_engine.new.self.worker c.turn_all.new.worker.worker c.swap_engine-2.new.self.worker _ _ _ _ _ _ _ _ (ap (λ (w : WorkerView _ _). w.worker) c.swap_engine.ensures.taken) (ap (λ (s : SeatView _). s.did) c.of-seat.ensures) c.turn_all.ensures.turns
    (ap (λ (w : WorkerView _ _). w.worker) c.swap_engine-2.ensures.taken) c.swap_engine-2.ensures.given.0 first c.into_core.ensures.done c.self.invariant.2 in
    (of, stays _ _ _ c.into_core.ensures.done (subst IsSome (sym first) c.self.invariant.1), own.0)
