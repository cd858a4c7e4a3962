use Rattle.std.proofs.Common.{◌∷◌, ◌∙◌, ap, arith, inl, refl}
use Rattle.mx_folder.specs.declared.steps.Step.TheVariants.{Looked}
use Rattle.mx_save.proofs.Runs.{kept_step, looked_done, more_refused, no_part, same_on, told_kind}
use Rattle.mx_save.proofs.ledger.Ledger.look.Goals as goal

pub invariant_of-self : goal.invariant_of-self
invariant_of-self g c =
    let steps = g.F.Folder.steps in
    let inside = c.self.inside in
    let step = Looked c.args.name.now (told_kind c.look.result) in
    let is = c.look.ensures ∙ ap (λ s. s ∷ steps inside.folder) (looked_done c.look.result c.args.name.now) in
    same_on g.B.Body.content inside.flush _ _ _ (steps inside.start.value) (steps inside.folder) (steps c.look.new.self) _ _ _ c.self.invariant
    (kept_step c.look.result step (steps inside.folder) (steps c.look.new.self) is (λ found name safe. refl))
    (no_part c.look.result step (steps inside.folder) (steps c.look.new.self) is (λ found name hidden. inl refl))
    (more_refused c.look.result step (steps inside.folder) (steps c.look.new.self) is (omega arith))
