use Rattle.std.proofs.Common.{◌≡◌, ◌∙◌, ap, map, arith}
use Rattle.std.proofs.lemmas.Grind.{common_steps}
use Rattle.mx_types.specs.declared.names.HandleId.{HandleId}
use Rattle.mx_types.specs.declared.names.Ticket.{Ticket}
use Rattle.mx_history.specs.History.{added}
use Rattle.mx_history.proofs.Defined.{tickets_paired}
use Rattle.mx_history.proofs.definitions.tickets.Goals as goal

pub returns : goal.returns
returns c =
    let all : c.loop-addition.list.items ≡ map (λ (x : HandleId × Ticket). x.1) c.deref-addition-items.result.now = grind (arith, common_steps) in
    all ∙ ap (map (λ (x : HandleId × Ticket). x.1)) (c.deref-addition-items.ensures.value ∙ c.in_ok-additions.ensures) ∙ tickets_paired (added c.args.events.now)
