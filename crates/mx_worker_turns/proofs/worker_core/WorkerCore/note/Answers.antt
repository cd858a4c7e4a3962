use Rattle.std.proofs.Common.{◌∙◌, ℕ, [], ◌∷◌, ◌++◌, refl, ap}
use Rattle.mx_turn.specs.Workers.{notes}
use Rattle.mx_worker_turns.proofs.Looking.{alike}
use Rattle.mx_worker_turns.proofs.worker_core.WorkerCore.note.Goals as goal

pub returns-clause-noted : goal.returns-clause-noted
returns-clause-noted g c =
    let counted = c.note.ensures.did ∙ ap (λ (n : ℕ). g.E.Engine.did c.self.inside.engine ++ notes (g.C.Right.ticket_of c.args.right.now) (g.C.Right.slot_of c.args.right.now) n ∷ []) c.received.ensures in
    rw (← c.self.view_is) (record {
      idle = c.keep.new.self;
      keeps = c.keep.ensures.kept;
      unlinks = c.keep.ensures.rest;
      after = alike _ _ refl refl refl refl refl counted refl;
    })
