use Rattle.std.proofs.Common.{◌∙◌, ap, sym}
use Rattle.mx_history.specs.Rows.{places}
use Rattle.mx_history.proofs.TableLaws.{due-table}
use Rattle.mx_table.proofs.table.Table.due.Goals as goal

pub returns : goal.returns
returns c j x =
    let y = rw (← c.self.view_is) at x in
    c.due.ensures ∙ ap places y.rowed ∙ sym (due-table j x.legal)
