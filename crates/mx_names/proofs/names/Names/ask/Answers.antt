use Rattle.std.proofs.Common.{subst, sym}
use Rattle.mx_names.specs.Names.{IsTable, IsTrueOf}
use Rattle.mx_names.proofs.Tables.{told_true}
use Rattle.mx_names.proofs.names.Names.ask.Goals as goal

pub returns-clause-true_of : goal.returns-clause-true_of
returns-clause-true_of g c =
    let gives = g.L.Lookup.gives in
    let table : IsTable gives c.args.self.now = subst (IsTable gives) c.self.view_is c.self.invariant in
    subst (IsTrueOf gives c.args.host.now) (sym c.in_ok-answer.ensures)
    (told_true gives c.args.host.now c.args.since c.args.now c.args.self.now table.true_to)
