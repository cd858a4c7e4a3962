use Rattle.std.proofs.Common.{◌≡◌, ap, arith}
use Rattle.std.proofs.lemmas.Grind.{common_steps}
use Rattle.mx_request.specs.Request.{RequestValue}
use Rattle.mx_line.proofs.Ordered.{rest_of}
use Rattle.mx_line.proofs.LineSteps.{Line-write}
use Rattle.mx_line.proofs.lines.Line.write.Goals as goal

pub invariant_of-self : goal.invariant_of-self
invariant_of-self g c =
    let rest = rest_of c.self.inside.written c.args.request.now.bytes in
    let about : c.self.inside.about.value ≡ c.args.request.now = rw (← c.self.view_is) at c.requires.about in
    let bytes = ap (λ (r : RequestValue). r.bytes) about in
    rw c.taken_count.ensures
    (Line-write g.L.Link.history g.L.Link.asked g.L.Link.token_of _ _ _ _ _ _ _ _ _ _ _ c.self.invariant (rw (← c.self.view_is) at c.requires.open.probed) (rw (← c.self.view_is) at c.requires.open.fresh) (rw (← c.self.view_is) at c.requires.open.lasts) c.try_write-write.result (rw (← c.self.view_is) at c.requires.made) (rw bytes (rw (← c.self.view_is) at c.requires.unsent)) (rw bytes (rw (c.bytes.ensures, rest) at c.try_write-write.ensures.within)) (rw bytes (rw (c.bytes.ensures, rest) at c.try_write-write.ensures.told)) (rw bytes (rw (c.bytes.ensures, rest) at c.try_write-write.ensures.asked)) c.try_write-write.ensures.token (rw bytes (rw (c.to_write.ensures, c.bytes.ensures, rest) at c.note.ensures)))

pub returns-clause-line : goal.returns-clause-line
returns-clause-line g c = invariant_of-self g c

pub returns-clause-grows : goal.returns-clause-grows
returns-clause-grows g c = grind (arith, common_steps)
