use Rattle.std.proofs.Common.{◌∙◌, ap}
use Rattle.std.specs.List.{find}
use Rattle.mx_history.specs.declared.row.Row.{Row}
use Rattle.mx_history.specs.History.{same_ticket}
use Rattle.mx_history.proofs.SlotLists.{slot_found}
use Rattle.mx_history.proofs.TableLaws.{ticket_found, row_only, same_only, none_only}
use Rattle.mx_table.proofs.table.Table.row_of_ticket.Goals as goal

pub returns-clause-handle : goal.returns-clause-handle
returns-clause-handle c j x =
    let y = rw (← c.self.view_is) at x in
    ticket_found j x.legal c.args.ticket c.row_of_ticket.result (c.row_of_ticket.ensures ∙ ap (find (λ (r : Row). same_ticket c.args.ticket r.ticket)) y.rowed)

pub returns-clause-slot : goal.returns-clause-slot
returns-clause-slot c j x =
    let y = rw (← c.self.view_is) at x in
    slot_found j c.args.ticket c.row_of_ticket.result (c.row_of_ticket.ensures ∙ ap (find (λ (r : Row). same_ticket c.args.ticket r.ticket)) y.rowed)

pub returns-clause-row : goal.returns-clause-row
returns-clause-row c j x =
    let y = rw (← c.self.view_is) at x in
    row_only j x.legal (λ r. same_ticket c.args.ticket r.ticket) c.row_of_ticket.result (c.row_of_ticket.ensures ∙ ap (find (λ (r : Row). same_ticket c.args.ticket r.ticket)) y.rowed)

pub returns-clause-same : goal.returns-clause-same
returns-clause-same c = same_only c.args.ticket c.self.inside.rows c.row_of_ticket.result c.row_of_ticket.ensures

pub returns-clause-none : goal.returns-clause-none
returns-clause-none c j x =
    let y = rw (← c.self.view_is) at x in
    none_only j x.legal c.args.ticket c.row_of_ticket.result (c.row_of_ticket.ensures ∙ ap (find (λ (r : Row). same_ticket c.args.ticket r.ticket)) y.rowed)
