use Rattle.std.proofs.Common.{◌∙◌, sym, ap, refl}
use Rattle.mx_turn.specs.Engines.{EndView}
use Rattle.mx_worker_turns.specs.WorkerSteps.{WorkerView, InFlightView}
use Rattle.mx_worker_turns.proofs.Looking.{alike}
use Rattle.mx_worker_turns.proofs.Handing.{came_back, was_taken, was_set_aside}
use Rattle.mx_worker_turns.proofs.worker_core.WorkerCore.record.Goals as goal

pub set_aside-requires-clause-of : goal.set_aside-requires-clause-of
set_aside-requires-clause-of g c = ap (λ (e : EndView). e.of) (came_back _ _ _ c.in-Some.finished c.in-Some.ensures.did).1 ∙ c.requires.own ∙ sym (ap (λ (d : WorkerView _ _). d.of) c.self.view_is) ∙ sym c.self.invariant

pub returns-in-Some-clause-retries : goal.returns-in-Some-clause-retries
returns-in-Some-clause-retries g c = rw (← c.self.view_is) (
  c.in-Some.ensures.did.f,
  alike _ _ (ap (λ (r : InFlightView _). r.held) c.set_aside.ensures) (ap (λ (r : InFlightView _). r.set_aside) c.set_aside.ensures) refl refl refl refl refl
      ∙ was_set_aside _ _ _ c.in-Some.finished c.in-Some.ensures.did,
)

pub returns-in_default-clause-retries : goal.returns-in_default-clause-retries
returns-in_default-clause-retries g c = rw (← c.self.view_is) (c.in_default.ensures.did.f, was_taken _ _ _ c.in_default.ensures.did)
