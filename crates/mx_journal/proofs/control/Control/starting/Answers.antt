use Rattle.std.proofs.Common.{refl, arith}
use Rattle.mx_journal.proofs.Beginnings.{tabled_begun, control_begun, begun_begun, origins_begun}
use Rattle.mx_journal.proofs.control.Control.starting.Goals as goal

pub invariant_of-result : goal.invariant_of-result
invariant_of-result g c =
    let j = c.in_ok-journal.ensures.items in
    let q = c.in_ok-queue.ensures.items in
    let e = c.in_ok-endings.ensures.items in
    record {
      tabled = tabled_begun _ _ _ _ j c.in_ok-table.ensures.empty c.in_ok-table.ensures.fresh (omega (arith, c.in_ok-journal.ensures.exact));
      kept = control_begun g.O.Ending.code_of g.O.Ending.size_of _ _ _ _ _ _ j q e c.requires (omega (arith, c.in_ok-queue.ensures.exact)) (omega (arith, c.in_ok-endings.ensures.exact));
      begun = begun_begun _ _ _ _ j (omega arith) c.new-before.ensures.zero;
      origins = origins_begun g.Q.Work.origin _ _ _ _ _ j c.in_ok-origins.ensures q;
    }

pub returns : goal.returns
returns g c = rw (c.in_ok-journal.ensures.items, c.in_ok-queue.ensures.items, c.in_ok-endings.ensures.items, c.in_ok-origins.ensures) refl
