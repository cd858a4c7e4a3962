use Rattle.mx_table.proofs.table.Table.apply.Goals as goal

pub invariant_of-self : goal.invariant_of-self
invariant_of-self c = rw c.enter-2.ensures.capacity c.self.invariant
