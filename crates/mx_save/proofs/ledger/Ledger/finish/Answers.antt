use Rattle.std.proofs.Common.{[], ◌∷◌, ◌∙◌, ap, arith, inl, refl, subst}
use Rattle.mx_folder.specs.Steps.{done}
use Rattle.mx_folder.specs.declared.steps.Step.TheVariants.{FolderFlushed}
use Rattle.mx_save.specs.Ledgers.{LedgerValue, IsLedger}
use Rattle.mx_save.proofs.Runs.{kept_step, more_refused, no_part, same_on}
use Rattle.mx_save.proofs.ledger.Ledger.finish.Goals as goal

pub returns-clause-run : goal.returns-clause-run
returns-clause-run g c =
    let steps = g.F.Folder.steps in
    let content = g.B.Body.content in
    let inside = c.self.inside in
    let new = steps c.flush_folder-flushed.new.self in
    let P : LedgerValue g.row.B.Denot → Type 0 = λ l. IsLedger content (record { start = l.start; steps = new; entries = l.entries; flush = l.flush; out = l.out; left = l.left; process = l.process; number = l.number }) in
    subst P c.self.view_is
    (same_on content inside.flush _ _ _ (steps inside.start.value) (steps inside.folder) new _ _ _ c.self.invariant
    (kept_step c.flush_folder-flushed.result FolderFlushed (steps inside.folder) new c.flush_folder-flushed.ensures (λ found name safe. refl))
    (no_part c.flush_folder-flushed.result FolderFlushed (steps inside.folder) new c.flush_folder-flushed.ensures (λ found name hidden. inl refl))
    (more_refused c.flush_folder-flushed.result FolderFlushed (steps inside.folder) new c.flush_folder-flushed.ensures (omega arith)))

pub returns-clause-later : goal.returns-clause-later
returns-clause-later g c =
    let step = done c.flush_folder-flushed.result FolderFlushed in
    (step ∷ [], c.flush_folder-flushed.ensures ∙ ap (λ (l : LedgerValue g.row.B.Denot). step ∷ l.steps) c.self.view_is)
