use Rattle.std.proofs.Common.{◌∙◌, ap, arith, length, subst}
use Rattle.mx_history.specs.History.{is_legal}
use Rattle.mx_history.specs.Table.{IsTableOf}
use Rattle.mx_history.proofs.Retiring.{retiring_keeps}
use Rattle.mx_journal.proofs.Retirings.{kept_by, room-retired}
use Rattle.mx_journal.proofs.retiring.keep_the_added.Goals as goal

pub fill-requires-clause-legal : goal.fill-requires-clause-legal
fill-requires-clause-legal c =
    let j = c.args.journal.now.items in
    let k = c.drop_the_gone.ensures.items ∙ kept_by j c.args.table.now c.requires.tabled.table in
    ap is_legal (c.deref.ensures.value ∙ k) ∙ (retiring_keeps j c.requires.kept.legal).legal

pub fill-requires-clause-few : goal.fill-requires-clause-few
fill-requires-clause-few c =
    let j = c.args.journal.now.items in
    let k = c.drop_the_gone.ensures.items ∙ kept_by j c.args.table.now c.requires.tabled.table in
    let r = room-retired c.args.history j c.requires.kept in
    let n = ap length (c.deref.ensures.value ∙ k) in
    omega (arith, r.room, r.limit, n)

pub returns-clause-items : goal.returns-clause-items
returns-clause-items c = c.drop_the_gone.ensures.items ∙ kept_by c.args.journal.now.items c.args.table.now c.requires.tabled.table

pub returns-clause-tabled : goal.returns-clause-tabled
returns-clause-tabled c = record {
  table = subst (λ z. IsTableOf z c.fill.new.table) c.deref.ensures.value c.fill.ensures.table;
  sized = c.fill.ensures.sized;
  fits = rw c.drop_the_gone.ensures.capacity c.requires.tabled.fits;
}
