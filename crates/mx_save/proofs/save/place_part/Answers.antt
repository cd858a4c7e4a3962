use Rattle.mx_folder.specs.Parts.{told_of}
use Rattle.mx_folder.specs.declared.steps.FolderCall.TheVariants as call
use Rattle.mx_folder.specs.declared.steps.Step.TheVariants.{Refused}
use Rattle.mx_save.proofs.Calls.{nothing_yet, part_removed, part_unplaced, placed, placed_is, unplaced, unplaced_kept}
use Rattle.mx_save.proofs.Moments.{later_by}
use Rattle.mx_save.specs.Tries.{removed_by}
use Rattle.std.proofs.Common.{◌∷◌, ◌++◌, ◌∙◌, ap, refl}
use Rattle.mx_save.proofs.save.place_part.Goals as goal

pub returns-in-Err-clause-kept : goal.returns-in-Err-clause-kept
returns-in-Err-clause-kept g c =
    let steps = g.F.Folder.steps in
    let part = (g.F.Part.PartFile.value c.args.part).name in
    let v = g.F.Part.PartFile.value c.flush_part.new.part in
    let old = steps c.args.folder.now in
    let new = steps c.remove_part-left.new.folder in
    let moments = part_removed c.remove_part-left.result part v old old new (nothing_yet part old) c.flush_part.ensures.named c.remove_part-left.ensures in
    unplaced_kept part old new c.requires.hidden moments

pub returns-in-Err-clause-any_moment : goal.returns-in-Err-clause-any_moment
returns-in-Err-clause-any_moment g c =
    let steps = g.F.Folder.steps in
    let made = g.F.Part.PartFile.value c.args.part in
    let part = made.name in
    let v = g.F.Part.PartFile.value c.flush_part.new.part in
    let old = steps c.args.folder.now in
    let new = steps c.remove_part-left.new.folder in
    let moments = part_removed c.remove_part-left.result part v old old new (nothing_yet part old) c.flush_part.ensures.named c.remove_part-left.ensures in
    unplaced part c.args.name.now made.bytes c.args.flush old new moments

pub returns-in-Err-place-clause-kept : goal.returns-in-Err-place-clause-kept
returns-in-Err-place-clause-kept g c =
    let steps = g.F.Folder.steps in
    let value = g.F.Part.PartFile.value in
    let part = (value c.args.part).name in
    let same = ap (λ p. p.name) c.in-Err-place.ensures.unplaced ∙ c.flush_part.ensures.named in
    let old = steps c.args.folder.now in
    let new = steps c.remove_part-left-in-Err-place.new.folder in
    let moments = part_unplaced c.in-Err-place.unplaced.error c.remove_part-left-in-Err-place.result part (value c.flush_part.new.part) (value c.in-Err-place.unplaced.part)
    old (steps c.place.new.self) new same c.in-Err-place.ensures.noted c.remove_part-left-in-Err-place.ensures in
    unplaced_kept part old new c.requires.hidden moments

pub returns-in-Err-place-clause-any_moment : goal.returns-in-Err-place-clause-any_moment
returns-in-Err-place-clause-any_moment g c =
    let steps = g.F.Folder.steps in
    let value = g.F.Part.PartFile.value in
    let made = value c.args.part in
    let part = made.name in
    let same = ap (λ p. p.name) c.in-Err-place.ensures.unplaced ∙ c.flush_part.ensures.named in
    let old = steps c.args.folder.now in
    let new = steps c.remove_part-left-in-Err-place.new.folder in
    let moments = part_unplaced c.in-Err-place.unplaced.error c.remove_part-left-in-Err-place.result part (value c.flush_part.new.part) (value c.in-Err-place.unplaced.part)
    old (steps c.place.new.self) new same c.in-Err-place.ensures.noted c.remove_part-left-in-Err-place.ensures in
    unplaced part c.args.name.now made.bytes c.args.flush old new moments

pub returns-in-Ok-place-clause-any_moment : goal.returns-in-Ok-place-clause-any_moment
returns-in-Ok-place-clause-any_moment g c =
    let steps = g.F.Folder.steps in
    let made = g.F.Part.PartFile.value c.args.part in
    let part = made.name in
    let v = g.F.Part.PartFile.value c.flush_part.new.part in
    let old = steps c.args.folder.now in
    let new = steps c.place.new.self in
    let e = placed_is part c.args.name.now made.bytes c.args.flush v old new c.flush_part.ensures.named c.flush_part.ensures.bytes c.in-Ok.ensures.flushed
    c.in-Ok.ensures.sound c.in-Ok-place.ensures.noted in
    placed part c.args.name.now made.bytes c.args.flush old old new (nothing_yet part old) e

pub returns-in-Err-clause-removal : goal.returns-in-Err-clause-removal
returns-in-Err-clause-removal g c =
    let v = g.F.Part.PartFile.value c.flush_part.new.part in
    let between = told_of v ++ g.F.Folder.steps c.args.folder.now in
    (between, (told_of v, refl), c.remove_part-left.ensures ∙ ap (λ n. removed_by c.remove_part-left.result n ∷ between) c.flush_part.ensures.named)

pub returns-in-Err-place-clause-removal : goal.returns-in-Err-place-clause-removal
returns-in-Err-place-clause-removal g c =
    let steps = g.F.Folder.steps in
    let value = g.F.Part.PartFile.value in
    let v = value c.flush_part.new.part in
    let u = value c.in-Err-place.unplaced.part in
    let refused = Refused call.Place v.name c.in-Err-place.unplaced.error in
    let same = ap (λ p. p.name) c.in-Err-place.ensures.unplaced ∙ c.flush_part.ensures.named in
    let old = steps c.args.folder.now in
    let placed = steps c.place.new.self in
    let between = told_of u ++ placed in (
      between,
      later_by old placed between (refused ∷ told_of v, c.in-Err-place.ensures.noted) (told_of u, refl),
      c.remove_part-left-in-Err-place.ensures ∙ ap (λ n. removed_by c.remove_part-left-in-Err-place.result n ∷ between) same,
    )
