use Rattle.mx_multi.proofs.Standing.{whole_begins}
use Rattle.mx_multi.proofs.multi.Multi.are_of_one_journal.Goals as goal

pub returns-clause-seen : goal.returns-clause-seen
returns-clause-seen g c = rw (← c.one.view_is, ← c.two.view_is) c.are_of_one_journal.ensures.seen

pub returns-clause-whole : goal.returns-clause-whole
returns-clause-whole g c = rw (← c.one.view_is, ← c.two.view_is) (whole_begins _ _ _ _ c.are_of_one_journal.ensures.confirmed)
