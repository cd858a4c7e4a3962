use Rattle.std.proofs.Common.{◌∙◌, ap, sym}
use Rattle.std.specs.Option.{option_map}
use Rattle.mx_types.specs.declared.names.HandleId.{HandleId}
use Rattle.mx_types.specs.declared.names.Ticket.{Ticket}
use Rattle.mx_history.proofs.Defined.{ticket_by}
use Rattle.mx_history.proofs.definitions.ticket_of.Goals as goal

pub returns-in-None : goal.returns-in-None
returns-in-None c =
    ap (option_map (λ (a : HandleId × Ticket). a.1)) (sym c.in-None.is ∙ c.find_handle.ensures)
    ∙ ticket_by c.args.events.now c.args.handle c.deref.result.now (c.deref.ensures.value ∙ c.in_ok-added.ensures)

pub returns : goal.returns
returns c =
    ap (option_map (λ (a : HandleId × Ticket). a.1)) (sym c.in-Some.is ∙ c.find_handle.ensures)
    ∙ ticket_by c.args.events.now c.args.handle c.deref.result.now (c.deref.ensures.value ∙ c.in_ok-added.ensures)
