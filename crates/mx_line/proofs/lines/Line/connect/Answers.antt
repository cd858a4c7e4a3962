use Rattle.mx_line.proofs.LineSteps.{Line-connect}
use Rattle.mx_line.proofs.lines.Line.connect.Goals as goal

pub invariant_of-self : goal.invariant_of-self
invariant_of-self g c =
    rw c.is_done-self-inside.ensures
    (Line-connect g.L.Link.history g.L.Link.asked g.L.Link.token_of _ _ _ _ _ _ _ _ _ _ _ c.self.invariant (rw (← c.self.view_is) at c.requires.open.probed) (rw (← c.self.view_is) at c.requires.open.fresh) (rw (← c.self.view_is) at c.requires.open.lasts) c.try_connect-connect.result (rw (← c.self.view_is) at c.requires.unmade) c.try_connect-connect.ensures.told c.try_connect-connect.ensures.asked c.try_connect-connect.ensures.token (rw c.to_connect.ensures at c.note.ensures))

pub returns-clause-line : goal.returns-clause-line
returns-clause-line g c = invariant_of-self g c
