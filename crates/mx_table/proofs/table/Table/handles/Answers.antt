use Rattle.std.proofs.Common.{◌∙◌, ap, map}
use Rattle.mx_history.specs.declared.row.Row.{Row}
use Rattle.mx_history.specs.Rows.{table_of}
use Rattle.mx_history.proofs.Tables.{handles-rows}
use Rattle.mx_history.proofs.TableLaws.{tabled}
use Rattle.mx_table.proofs.table.Table.handles.Goals as goal

pub returns : goal.returns
returns c j x =
    let y = rw (← c.self.view_is) at x in
    c.new.ensures ∙ c.handles.ensures ∙ ap (map (λ (r : Row). r.handle)) y.rowed ∙ handles-rows j (table_of j) (tabled j x.legal)
