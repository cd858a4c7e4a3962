use Rattle.std.proofs.Common.{◌≡◌, MatchOption, subst}
use Rattle.mx_message.specs.Message.{IsNextEnd, Waited}
use Rattle.mx_message.proofs.Messages.{held_next}
use Rattle.mx_message.proofs.next.next_message_within.Goals as goal

pub returns-in-Some-clause-message : goal.returns-in-Some-clause-message
returns-in-Some-clause-message g c =
    let s = c.args.seat.now in
    let t = c.next_end_within.new.seat in
    held_next _ _ _ _ _ _ c.know.ensures (subst (λ o. MatchOption o (Waited s t) (λ n. IsNextEnd s t n.handle n.ticket n.outcome n.left)) c.in-Some.is c.in_ok-message.ensures.message)
