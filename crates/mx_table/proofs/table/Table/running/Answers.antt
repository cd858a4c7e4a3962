use Rattle.std.proofs.Common.{◌∙◌, ap, sym}
use Rattle.std.specs.List.{count_by}
use Rattle.mx_history.specs.declared.row.Row.{Row}
use Rattle.mx_history.specs.Rows.{is_open}
use Rattle.mx_history.proofs.TableLaws.{running-table}
use Rattle.mx_table.proofs.table.Table.running.Goals as goal

pub returns : goal.returns
returns c j x =
    let y = rw (← c.self.view_is) at x in
    c.running.ensures ∙ ap (count_by (λ (r : Row). is_open r.phase)) y.rowed ∙ sym (running-table j x.legal)
