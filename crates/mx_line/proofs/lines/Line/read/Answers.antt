use Rattle.std.proofs.Common.{◌∙◌}
use Rattle.mx_line.proofs.LineSteps.{Line-read}
use Rattle.mx_line.proofs.lines.Line.read.Goals as goal

pub invariant_of-self : goal.invariant_of-self
invariant_of-self g c = Line-read g.L.Link.history g.L.Link.asked g.L.Link.token_of _ _ _ _ _ _ _ _ _ _ _ c.self.invariant (rw (← c.self.view_is) at c.requires.open.probed) (rw (← c.self.view_is) at c.requires.open.fresh) (rw (← c.self.view_is) at c.requires.open.lasts) c.try_read-read.result _ (rw (← c.self.view_is) at c.requires.made) (rw (← c.self.view_is) at c.requires.sent) (c.try_read-read.ensures.length ∙ c.requires.room) c.try_read-read.ensures.within c.try_read-read.ensures.told c.try_read-read.ensures.asked c.try_read-read.ensures.token (rw c.to_read.ensures at c.note.ensures)

pub returns-clause-line : goal.returns-clause-line
returns-clause-line g c = invariant_of-self g c
