use Rattle.std.proofs.Common.{◌∙◌, ap}
use Rattle.std.specs.List.{find}
use Rattle.mx_history.specs.declared.row.Row.{Row}
use Rattle.mx_history.specs.History.{same_handle}
use Rattle.mx_history.proofs.TableLaws.{handle_found, row_only}
use Rattle.mx_history.proofs.Pinned.{slot_only, handle_only}
use Rattle.mx_table.proofs.table.Table.row_of_handle.Goals as goal

pub returns-clause-ticket : goal.returns-clause-ticket
returns-clause-ticket c j x =
    let y = rw (← c.self.view_is) at x in
    handle_found j x.legal c.args.handle c.row_of_handle.result (c.row_of_handle.ensures ∙ ap (find (λ (r : Row). same_handle c.args.handle r.handle)) y.rowed)

pub returns-clause-row : goal.returns-clause-row
returns-clause-row c j x =
    let y = rw (← c.self.view_is) at x in
    row_only j x.legal (λ r. same_handle c.args.handle r.handle) c.row_of_handle.result (c.row_of_handle.ensures ∙ ap (find (λ (r : Row). same_handle c.args.handle r.handle)) y.rowed)

pub returns-clause-slot : goal.returns-clause-slot
returns-clause-slot c j x =
    let y = rw (← c.self.view_is) at x in
    slot_only j x.legal (λ r. same_handle c.args.handle r.handle) c.row_of_handle.result (c.row_of_handle.ensures ∙ ap (find (λ (r : Row). same_handle c.args.handle r.handle)) y.rowed)

pub returns-clause-same : goal.returns-clause-same
returns-clause-same c = handle_only c.args.handle c.self.inside.rows c.row_of_handle.result c.row_of_handle.ensures
