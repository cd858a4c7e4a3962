use Rattle.std.proofs.Common.{◌≡◌, ◌∙◌, ap}
use Rattle.std.specs.List.{list_any}
use Rattle.mx_types.specs.declared.names.Ticket.{Ticket}
use Rattle.mx_history.specs.declared.row.Row.{Row}
use Rattle.mx_history.specs.History.{only_of, same_ticket}
use Rattle.mx_journal.proofs.Retirings.{kept_by}
use Rattle.mx_journal.proofs.control.Control.kept.Goals as goal

pub returns : goal.returns
returns g c =
    let j = c.self.inside.journal.items in
    let all : only_of (λ (t : Ticket). list_any (λ (r : Row). same_ticket t r.ticket) c.self.inside.table.rows) c.deref.result.now ≡ _ =
    ap (only_of (λ (t : Ticket). list_any (λ (r : Row). same_ticket t r.ticket) c.self.inside.table.rows)) c.deref.ensures.value ∙ kept_by j c.self.inside.table c.self.invariant.tabled.table in
    rw (← c.self.view_is, ← all) c.kept_of.ensures
