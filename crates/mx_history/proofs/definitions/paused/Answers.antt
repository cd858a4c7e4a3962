use Rattle.std.proofs.Common.{◌∙◌, ap, rules}
use Rattle.std.specs.List.{filter}
use Rattle.std.proofs.lemmas.Fn.{filter_same}
use Rattle.mx_types.specs.declared.names.Ticket.{Ticket}
use Rattle.mx_history.specs.History.{last_is_pause}
use Rattle.mx_history.proofs.definitions.paused.Goals as goal

pub returns : goal.returns
returns c =
    filter_same _ (λ (t : Ticket). last_is_pause t c.args.events.now) _ (λ x b f' k. search rules) _ _ c.retain.ensures.filtered
    ∙ ap (filter (λ (t : Ticket). last_is_pause t c.args.events.now)) c.in_ok-list.ensures
