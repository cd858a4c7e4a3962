use Rattle.std.proofs.Common.{◌≡◌, ◌∙◌, ap, sym, true, false}
use Rattle.std.specs.Prelude.{not, ◌&&◌}
use Rattle.mx_history.specs.History.{has_ticket, running}
use Rattle.mx_journal.specs.Core.{queued}
use Rattle.mx_journal.proofs.Returns.{claimed_is, queued_any}
use Rattle.mx_journal.proofs.control.Control.is_claimed.Goals as goal

pub returns-then-runs : goal.returns-then-runs
returns-then-runs g c =
    let j = c.self.inside.journal.items in
    let queue = c.self.inside.queue.items in
    let t = c.args.claim.now.ticket in
    let r : has_ticket t (running j) ≡ true = sym (rw (← c.self.view_is) at c.runs.ensures) ∙ c.if-runs.true in
    let q = (rw (c.deref.ensures.value, c.ticket.ensures) at c.has_ticket.ensures) ∙ queued_any t queue in
    rw (← c.self.view_is) (sym (claimed_is j t queue ∙ ap (λ b. b && not (has_ticket t (queued queue))) r ∙ ap not (sym q)))

pub returns-else-runs : goal.returns-else-runs
returns-else-runs g c =
    let j = c.self.inside.journal.items in
    let queue = c.self.inside.queue.items in
    let t = c.args.claim.now.ticket in
    let r : has_ticket t (running j) ≡ false = sym (rw (← c.self.view_is) at c.runs.ensures) ∙ c.if-runs.false in
    rw (← c.self.view_is) (c.if-runs.false ∙ sym (claimed_is j t queue ∙ ap (λ b. b && not (has_ticket t (queued queue))) r))
