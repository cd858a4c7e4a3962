use Rattle.std.proofs.Common.{◌∙◌, ap, sym, length}
use Rattle.std.specs.Prelude.{nat_le}
use Rattle.mx_types.specs.Limits.{most_handles}
use Rattle.mx_history.specs.Rows.{table_of}
use Rattle.mx_history.proofs.Tables.{length-rows}
use Rattle.mx_history.proofs.TableLaws.{tabled}
use Rattle.mx_table.proofs.table.Table.is_full.Goals as goal

pub returns : goal.returns
returns c j x =
    let y = rw (← c.self.view_is) at x in
    ap (λ n. nat_le most_handles n) (c.len.ensures.value ∙ ap length y.rowed ∙ sym (length-rows j (table_of j) (tabled j x.legal)))
