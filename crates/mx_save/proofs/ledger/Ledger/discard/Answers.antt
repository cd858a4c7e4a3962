use Rattle.std.proofs.Common.{◌≡◌, ◌++◌, ◌∙◌, ap, refl, subst, sym}
use Rattle.mx_folder.specs.Names.{part_of}
use Rattle.mx_folder.specs.Safe.{IsPartName}
use Rattle.mx_folder.specs.Files.{file}
use Rattle.mx_folder.specs.Parts.{told_of}
use Rattle.mx_save.specs.Bodies.{FilesAreKept, IsOnlyPart}
use Rattle.mx_save.specs.Ledgers.{LedgerValue}
use Rattle.mx_save.proofs.Calls.{at_end, nothing_yet, part_removed, removed_gone, removed_more, unplaced_kept}
use Rattle.mx_save.proofs.Moments.{later_as}
use Rattle.mx_save.proofs.Runs.{back_on}
use Rattle.mx_save.proofs.Steps.{parts_from_only}
use Rattle.mx_save.proofs.ledger.Ledger.discard.Goals as goal

pub invariant_of-self : goal.invariant_of-self
invariant_of-self g c =
    let steps = g.F.Folder.steps in
    let inside = c.self.inside in
    let v = g.F.Part.PartFile.value c.come_back-part.result.1 in
    let number = c.args.made.number in
    let old = steps inside.folder in
    let new = steps c.remove_part-left.new.folder in
    let left = c.remove_part-left.result in
    let removed = c.remove_part-left.ensures in
    let named = ap (λ p. p.name) c.come_back-part.ensures.part in
    let same : c.come_back-part.result.0 ≡ v.name = c.come_back-part.ensures.name ∙ sym named in
    let of = c.requires.of ∙ sym (ap (λ (l : LedgerValue g.row.B.Denot). l.process) c.self.view_is) in
    let is : v.name ≡ part_of inside.out.process number = named ∙ c.know.ensures.name ∙ ap (λ p. part_of p c.args.made.number) of in
    let moments = part_removed left v.name v old old new (nothing_yet v.name old) refl removed in
    simp (c.note_left.ensures, c.come_back-part.ensures.out, same)
    (back_on g.B.Body.content inside.flush _ _ _ (steps inside.start.value) old new _ _ _ number v.name left c.self.invariant is
    (unplaced_kept v.name old new (subst IsPartName same c.know-2.ensures) moments)
    (parts_from_only v.name old new (at_end (IsOnlyPart v.name old) old new moments))
    (removed_gone left v.name v old new refl removed)
    (removed_more left v old new removed)
    (told_of v ++ old, (told_of v, refl), removed))

pub returns-clause-files : goal.returns-clause-files
returns-clause-files g c found name safe =
    let steps = g.F.Folder.steps in
    let v = g.F.Part.PartFile.value c.come_back-part.result.1 in
    let old = steps c.self.inside.folder in
    let new = steps c.remove_part-left.new.folder in
    let same = c.come_back-part.ensures.name ∙ sym (ap (λ p. p.name) c.come_back-part.ensures.part) in
    let moments = part_removed c.remove_part-left.result v.name v old old new (nothing_yet v.name old) refl c.remove_part-left.ensures in
    at_end (FilesAreKept old) old new (unplaced_kept v.name old new (subst IsPartName same c.know-2.ensures) moments) found name safe
    ∙ ap (λ (l : LedgerValue g.row.B.Denot). file found l.steps name) c.self.view_is

pub returns-clause-later : goal.returns-clause-later
returns-clause-later g c =
    let steps = g.F.Folder.steps in
    let v = g.F.Part.PartFile.value c.come_back-part.result.1 in
    let old = steps c.self.inside.folder in
    let new = steps c.remove_part-left.new.folder in
    let moments = part_removed c.remove_part-left.result v.name v old old new (nothing_yet v.name old) refl c.remove_part-left.ensures in
    later_as old new _ moments.later (ap (λ (l : LedgerValue g.row.B.Denot). l.steps) c.self.view_is)
