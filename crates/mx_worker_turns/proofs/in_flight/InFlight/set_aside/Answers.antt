use Rattle.std.proofs.Common.{List, [], ◌∷◌, ◌∙◌, ap}
use Rattle.std.specs.Prelude.{map}
use Rattle.std.proofs.lemmas.List.{map-append}
use Rattle.mx_turn.specs.Workers.{SetAside}
use Rattle.mx_turn.specs.Engines.{EndView}
use Rattle.mx_worker_turns.specs.WorkerSteps.{QueueView}
use Rattle.mx_worker_turns.proofs.in_flight.InFlight.set_aside.Goals as goal

pub returns : goal.returns
returns g c =
    let end = λ (e : EndView). e.end in
    let items = ap (λ (q : QueueView EndView). map end q.items) c.push.ensures ∙ map-append end c.self.inside.set_aside.items (c.args.finished ∷ []) in
    rw (← c.self.view_is) (ap (λ (l : List SetAside). record { held = map (λ (h : _). h.held) c.self.inside.held.items; set_aside = l; of = c.self.inside.held.of }) items)
