use Rattle.mx_journal.proofs.Controls.{oldest_has_row, oldest_is_first}
use Rattle.mx_journal.proofs.control.Control.oldest.Goals as goal

pub returns-clause-none : goal.returns-clause-none
returns-clause-none g c =
    let s = c.self.invariant.kept.sound in
    rw (← c.self.view_is)
    (oldest_has_row g.O.Ending.code_of g.O.Ending.size_of c.self.inside.journal.items c.self.inside.endings.items c.in_ok-first.first.now c.row_of_ticket.result
    s.kept.legal s.waits (rw c.deref.ensures.value at c.in_ok-first.ensures.value) (c.row_of_ticket.ensures.handle c.self.inside.journal.items c.self.invariant.tabled.table))

pub returns-clause-ticket : goal.returns-clause-ticket
returns-clause-ticket g c =
    rw (← c.self.view_is)
    (oldest_is_first c.self.inside.endings.items c.in_ok-first.first.now c.row_of_ticket.result (rw c.deref.ensures.value at c.in_ok-first.ensures.value) c.row_of_ticket.ensures.same)
