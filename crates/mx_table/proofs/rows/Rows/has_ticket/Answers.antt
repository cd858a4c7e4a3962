use Rattle.std.proofs.Common.{◌∙◌, ap}
use Rattle.std.specs.Option.{is_some}
use Rattle.mx_history.specs.declared.row.Row.{Row}
use Rattle.mx_history.specs.History.{same_ticket}
use Rattle.mx_table.proofs.Lookups.{is_found}
use Rattle.mx_table.proofs.rows.Rows.has_ticket.Goals as goal

pub returns : goal.returns
returns c = c.is_some.ensures ∙ ap is_some c.row_of_ticket.ensures ∙ is_found (λ (r : Row). same_ticket c.args.ticket r.ticket) c.args.self.now
