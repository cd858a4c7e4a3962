use Rattle.std.proofs.Common.{◌∙◌, ap, sym, rules, ℕ}
use Rattle.std.specs.Prelude.{not}
use Rattle.std.proofs.lemmas.Fn.{filter_same}
use Rattle.mx_types.specs.declared.names.Ticket.{Ticket}
use Rattle.mx_history.specs.History.{same_ticket}
use Rattle.mx_history.specs.Slots.{slots_after}
use Rattle.mx_history.proofs.definitions.enter.Goals as goal

pub returns-in-Removed : goal.returns-in-Removed
returns-in-Removed c =
    filter_same _ (λ (s : Ticket × ℕ). not (same_ticket s.0 c.in-Removed.ticket)) _ (λ x b f' k. search rules) _ _ c.retain.ensures.filtered
    ∙ ap (slots_after c.args.list.now.items) (sym c.in-Removed.is)
