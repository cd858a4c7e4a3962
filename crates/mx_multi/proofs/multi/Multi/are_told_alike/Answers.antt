use Rattle.mx_multi.proofs.Standing.{told_alike}
use Rattle.mx_multi.proofs.multi.Multi.are_told_alike.Goals as goal

pub returns-clause-list : goal.returns-clause-list
returns-clause-list g c = rw (← c.one.view_is, ← c.two.view_is) c.are_of_one_list.ensures

pub returns-clause-alike : goal.returns-clause-alike
returns-clause-alike g c = rw (← c.one.view_is, ← c.two.view_is) (told_alike _ _ c.are_of_one_list.ensures)
