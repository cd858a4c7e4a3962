use Rattle.mx_table.proofs.SlotCounts.{lowest_found, lowest_of_none}
use Rattle.mx_table.proofs.slots.lowest_free.Goals as goal

pub returns-in-Some : goal.returns-in-Some
returns-in-Some c rows a = lowest_found c.args.counts.now rows c.in-Some.slot a (rw a.each at c.in-Some.ensures.within) c.in-Some.ensures.there c.in-Some.ensures.first

pub returns-in-None : goal.returns-in-None
returns-in-None c rows a = lowest_of_none c.args.counts.now rows a c.in-None.ensures.none
