use Rattle.std.proofs.Common.{◌≡◌, ◌≢◌, ◌∙◌, subst, sym, slice_index_or, true}
use Rattle.mx_save.specs.Ledgers.{IsFresh}
use Rattle.mx_save_tests.proofs.three_parts.save_around.Goals as goal

pub end-first-requires-clause-out : goal.end-first-requires-clause-out
end-first-requires-clause-out g c =
    c.end-third.ensures.others c.in-Ok.first.number (c.is_apart.ensures c.if-not-is_apart.false)
    (c.make-3.ensures.others c.in-Ok.first.number (c.make-2.ensures.others c.in-Ok.first.number c.in-Ok.ensures.out))

pub end-first-requires-clause-fresh : goal.end-first-requires-clause-fresh
end-first-requires-clause-fresh g c =
    let first = slice_index_or c.args.names.now 0 c.index-names-0.result in
    let third = slice_index_or c.args.names.now 2 c.index-names-2.result in
    let apart : first ≢ third = λ e. let same : c.is_same.result ≡ true = c.is_same.ensures.1 (sym e) in let other = c.if-is_same.false in cc in
    let none = c.make-3.ensures.entries ∙ c.make-2.ensures.entries ∙ c.make.ensures.entries ∙ c.requires in
    c.end-third.ensures.fresh first apart (subst (λ es. IsFresh first es) (sym none) tt)
