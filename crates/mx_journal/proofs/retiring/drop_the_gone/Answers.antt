use Rattle.std.proofs.Common.{rules}
use Rattle.std.specs.List.{list_any}
use Rattle.std.proofs.lemmas.Fn.{filter_same}
use Rattle.mx_types.specs.declared.event.Event.{Event}
use Rattle.mx_types.specs.declared.names.Ticket.{Ticket}
use Rattle.mx_history.specs.declared.row.Row.{Row}
use Rattle.mx_history.specs.History.{is_of_such, same_ticket}
use Rattle.mx_journal.proofs.retiring.drop_the_gone.Goals as goal

pub returns-clause-items : goal.returns-clause-items
returns-clause-items c =
    filter_same _ (λ (e : Event). is_of_such (λ (t : Ticket). list_any (λ (r : Row). same_ticket t r.ticket) c.args.table.now.rows) e.what) _ (λ x b f' k. search rules) _ _ c.retain.ensures.filtered
