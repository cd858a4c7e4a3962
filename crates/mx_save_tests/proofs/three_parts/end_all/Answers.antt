use Rattle.std.proofs.Common.{subst, sym}
use Rattle.mx_save.specs.Ledgers.{IsFresh}
use Rattle.mx_save_tests.proofs.three_parts.end_all.Goals as goal

pub end-second-requires-clause-fresh : goal.end-second-requires-clause-fresh
end-second-requires-clause-fresh g c =
    c.end-first.ensures.fresh c.args.two.name.now c.requires.two_from_one.1 (subst (λ es. IsFresh c.args.two.name.now es) (sym c.requires.fresh) tt)

pub end-third-requires-clause-fresh : goal.end-third-requires-clause-fresh
end-third-requires-clause-fresh g c =
    c.end-second.ensures.fresh c.args.three.name.now c.requires.three_from_two.1
    (c.end-first.ensures.fresh c.args.three.name.now c.requires.three_from_one.1 (subst (λ es. IsFresh c.args.three.name.now es) (sym c.requires.fresh) tt))
