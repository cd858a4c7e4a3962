use Rattle.std.proofs.Common.{ap, subst}
use Rattle.mx_desk.specs.Additions.{AreAtFirst}
use Rattle.mx_desk.specs.Ties.{ties_of}
use Rattle.mx_desk.proofs.Desks.{desk_with}
use Rattle.mx_desk.proofs.desk.Desk.with_beside.Goals as goal

pub invariant_of-result : goal.invariant_of-result
invariant_of-result g c =
    let at = subst AreAtFirst c.as_slice.ensures.value (c.is_any_beside.ensures c.if-is_any_beside.false) in
    desk_with (ties_of c.self.inside.seats) (ties_of c.with.result) c.self.inside.additions.items c.self.inside.width c.self.inside.waiting (ap (λ s. s.first.ties) c.with.ensures) at c.self.invariant
