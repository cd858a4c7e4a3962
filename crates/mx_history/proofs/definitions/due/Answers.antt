use Rattle.std.proofs.Common.{◌∙◌, ◌+◌, ap, sym, take, arith}
use Rattle.std.specs.List.{sum_by}
use Rattle.mx_types.specs.declared.names.Ticket.{Ticket}
use Rattle.mx_history.specs.History.{due_of}
use Rattle.mx_history.proofs.Defined.{sum_next}
use Rattle.mx_history.proofs.definitions.due.Goals as goal

pub loop-ticket-preserved : goal.loop-ticket-preserved
loop-ticket-preserved c =
    let n : Ticket → _ = λ t. due_of t c.args.events.now in
    let items = c.deref-ticket-items.result.now in
    let at = c.loop-ticket.ticket-index in
    record {
      sum = ap (λ k. k + c.due_of.result) c.loop-ticket.invariant.sum ∙ ap (λ k. sum_by n (take at items) + k) c.due_of.ensures.value ∙ sym (sum_next n items at _ c.loop-ticket-test.true);
      few = omega (arith, c.loop-ticket.invariant.few, c.due_of.ensures.few);
    }
