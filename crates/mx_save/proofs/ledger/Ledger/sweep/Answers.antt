use Rattle.std.proofs.Common.{◌∙◌, ap, subst, sym}
use Rattle.mx_save.specs.Ledgers.{LedgerValue}
use Rattle.mx_save.proofs.Sweeps.{AreSwept, swept_all, swept_later, swept_more, swept_none}
use Rattle.mx_save.proofs.ledger.Ledger.sweep.Goals as goal

pub loop-init : goal.loop-init
loop-init g c = swept_none _

pub loop-preserved : goal.loop-preserved
loop-preserved g c = swept_more _ _ _ c.loop.invariant (c.sweep_one.ensures.one c.loop-test.true) c.sweep_one.ensures.files

pub returns-clause-swept : goal.returns-clause-swept
returns-clause-swept g c =
    let none = c.sweep_one.ensures.none c.loop-test.false in
    swept_all _ _ (subst (AreSwept c.args.self.now) (sym none.1) c.loop.invariant) (ap (λ (l : LedgerValue g.row.B.Denot). l.out) none.1 ∙ none.0)

pub returns-clause-later : goal.returns-clause-later
returns-clause-later g c =
    let none = c.sweep_one.ensures.none c.loop-test.false in
    swept_later _ _ (subst (AreSwept c.args.self.now) (sym none.1) c.loop.invariant)
