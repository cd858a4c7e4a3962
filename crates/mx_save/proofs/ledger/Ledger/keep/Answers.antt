use Rattle.std.proofs.Common.{◌≡◌, ◌∙◌, ap, arith, subst, sym}
use Rattle.mx_folder.specs.Names.{part_of}
use Rattle.mx_folder.specs.Safe.{IsPartName}
use Rattle.mx_folder.specs.Files.{file}
use Rattle.mx_folder.specs.Moments.{AtEachMoment}
use Rattle.mx_folder.specs.Steps.{refusals}
use Rattle.mx_save.specs.Bodies.{FilesAreKept, Holds, IsBeforeOrAfter}
use Rattle.mx_save.specs.Ledgers.{LedgerValue, IsFresh}
use Rattle.mx_save.proofs.Calls.{at_end, refusals_grow, refused_once, same_refusals}
use Rattle.mx_save.proofs.Runs.{back_on, saved_on}
use Rattle.mx_save.proofs.Steps.{parts_from_placed}
use Rattle.mx_save.proofs.ledger.Ledger.keep.Goals as goal

pub invariant_of-self : goal.invariant_of-self
invariant_of-self g c =
    let steps = g.F.Folder.steps in
    let inside = c.self.inside in
    let v = g.F.Part.PartFile.value c.come_back-part.result.1 in
    let number = c.args.made.number in
    let name = c.args.name.now in
    let body = g.B.Body.content c.args.body.value in
    let old = steps inside.folder in
    let new = steps c.place_part.new.folder in
    let named = ap (λ p. p.name) c.come_back-part.ensures.part in
    let same : c.come_back-part.result.0 ≡ v.name = c.come_back-part.ensures.name ∙ sym named in
    let of = c.requires.of ∙ sym (ap (λ (l : LedgerValue g.row.B.Denot). l.process) c.self.view_is) in
    let is : v.name ≡ part_of inside.out.process number = named ∙ c.know.ensures.name ∙ ap (λ p. part_of p c.args.made.number) of in
    let fresh = subst (IsFresh name) (sym (ap (λ (l : LedgerValue g.row.B.Denot). l.entries) c.self.view_is)) c.requires.fresh in
    let whole : v.bytes ≡ body = ap (λ p. p.bytes) c.come_back-part.ensures.part ∙ c.requires.whole in
    simp (c.note.ensures, c.of.ensures, c.come_back-part.ensures.out)
    (saved_on g.B.Body.content inside.flush v.name name c.args.body.value _ _ _ (steps inside.start.value) old new _ _ _ number c.self.invariant is
    (subst IsPartName same c.know-2.ensures) c.know-3.ensures fresh
    (subst (λ b. AtEachMoment (IsBeforeOrAfter v.name name b inside.flush old) old new) whole c.in-Ok.ensures.any_moment)
    (subst (λ b. Holds name b inside.flush new) whole c.in-Ok.ensures.saved)
    c.in-Ok.ensures.away
    (omega (arith, same_refusals old new c.in-Ok.ensures.none)))

pub invariant_of-self-in-Err : goal.invariant_of-self-in-Err
invariant_of-self-in-Err g c =
    let steps = g.F.Folder.steps in
    let inside = c.self.inside in
    let v = g.F.Part.PartFile.value c.come_back-part.result.1 in
    let number = c.args.made.number in
    let name = c.args.name.now in
    let old = steps inside.folder in
    let new = steps c.place_part.new.folder in
    let named = ap (λ p. p.name) c.come_back-part.ensures.part in
    let same : c.come_back-part.result.0 ≡ v.name = c.come_back-part.ensures.name ∙ sym named in
    let of = c.requires.of ∙ sym (ap (λ (l : LedgerValue g.row.B.Denot). l.process) c.self.view_is) in
    let is : v.name ≡ part_of inside.out.process number = named ∙ c.know.ensures.name ∙ ap (λ p. part_of p c.args.made.number) of in
    simp (c.note_left.ensures, c.come_back-part.ensures.out, same)
    (back_on g.B.Body.content inside.flush _ _ _ (steps inside.start.value) old new _ _ _ number v.name c.in-Err.field-0.left c.self.invariant is
    c.in-Err.ensures.kept
    (parts_from_placed v.name name v.bytes _ old new c.know-3.ensures (at_end _ old new c.in-Err.ensures.any_moment))
    c.in-Err.ensures.gone
    (refused_once v.name c.in-Err.field-0.error c.in-Err.field-0.left old new c.in-Err.ensures.known c.in-Err.ensures.calls)
    c.in-Err.ensures.removal)

pub returns-in-Err-clause-files : goal.returns-in-Err-clause-files
returns-in-Err-clause-files g c found name safe =
    let steps = g.F.Folder.steps in
    let old = steps c.self.inside.folder in
    at_end (FilesAreKept old) old (steps c.place_part.new.folder) c.in-Err.ensures.kept found name safe
    ∙ ap (λ (l : LedgerValue g.row.B.Denot). file found l.steps name) c.self.view_is

pub returns-in-Err-clause-cause : goal.returns-in-Err-clause-cause
returns-in-Err-clause-cause g c =
    let steps = g.F.Folder.steps in
    let v = g.F.Part.PartFile.value c.come_back-part.result.1 in
    let old = steps c.self.inside.folder in
    let new = steps c.place_part.new.folder in
    let grows = refusals_grow v.name c.in-Err.field-0.error c.in-Err.field-0.left old new c.in-Err.ensures.known c.in-Err.ensures.calls in
    λ _. omega (arith, grows, ap (λ (l : LedgerValue g.row.B.Denot). refusals l.steps) c.self.view_is)
