use Rattle.std.proofs.Common.{◌∙◌, arith}
use Rattle.mx_table.proofs.Lookups.{next_is_not, next_within, rest_long}
use Rattle.mx_table.proofs.rows.Rows.next_of.Goals as goal

pub returns-in_err-after-clause-none : goal.returns-in_err-after-clause-none
returns-in_err-after-clause-none c =
    rw (c.from_residual.ensures, ← c.self.view_is)
    (λ k d le lt.
    let rows = c.self.inside.rows.items in
    let kept = c.deref.ensures.value ∙ c.self.invariant.0.tickets in
    next_is_not rows c.deref.result.now c.args.from k d c.args.ticket kept le lt (c.in_err-after.ensures.none _ (rest_long rows c.deref.result.now c.args.from k kept le lt)))

pub returns-clause-first : goal.returns-clause-first
returns-clause-first c =
    rw (← c.self.view_is)
    (λ k d le lt.
    let rows = c.self.inside.rows.items in
    let kept = c.deref.ensures.value ∙ c.self.invariant.0.tickets in
    let within = next_within rows c.deref.result.now c.args.from c.in_ok-after.after kept c.in_ok-after.ensures.within in
    next_is_not rows c.deref.result.now c.args.from k d c.args.ticket kept le (omega (arith, lt, within)) (c.in_ok-after.ensures.first _ (omega (arith, le, lt))))
