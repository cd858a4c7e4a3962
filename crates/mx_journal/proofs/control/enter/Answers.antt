use Rattle.std.proofs.Common.{arith}
use Rattle.mx_history.proofs.TableLaws.{event_fits}
use Rattle.mx_journal.proofs.Controls.{tabled-then}
use Rattle.mx_journal.proofs.control.enter.Goals as goal

pub push_reserved-requires : goal.push_reserved-requires
push_reserved-requires c =
    let lt = event_fits c.args.history c.args.journal.now.items c.args.event.who c.args.event.what c.requires.kept c.requires.may c.requires.room in
    omega (arith, c.args.journal.now.ok.0, c.requires.tabled.fits)

pub returns-clause-tabled : goal.returns-clause-tabled
returns-clause-tabled c =
    rw (c.apply.ensures, c.push_reserved.ensures.items, c.push_reserved.ensures.capacity) (tabled-then c.args.history c.args.journal.now.items c.args.table.now _ c.args.event c.requires.kept c.requires.tabled c.requires.may c.requires.room)
