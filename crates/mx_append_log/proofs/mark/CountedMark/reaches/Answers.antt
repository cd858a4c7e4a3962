use Rattle.mx_append_log.proofs.Prefixes.{one_begins}
use Rattle.mx_append_log.proofs.mark.CountedMark.reaches.Goals as goal

pub returns-clause-begins : goal.returns-clause-begins
returns-clause-begins g c =
    rw (← c.self.view_is, ← c.other.view_is) (one_begins c.other.inside.mark.entries c.self.inside.mark.entries c.other.inside.count c.self.inside.count c.are_of_one_list.ensures c.other.invariant c.self.invariant)
