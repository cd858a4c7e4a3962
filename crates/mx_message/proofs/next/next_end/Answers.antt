use Rattle.std.proofs.Common.{◌≡◌, MatchOption, subst}
use Rattle.mx_message.specs.Message.{IsRead, Waited}
use Rattle.mx_message.proofs.Messages.{if_refused, next, unread_on}
use Rattle.mx_message.proofs.next.next_end.Goals as goal

pub returns-in-Some-2-clause-message : goal.returns-in-Some-2-clause-message
returns-in-Some-2-clause-message g c =
    let s = c.loop.seat in
    let t = c.read_once.new.seat in
    let m = c.in-Some-2.message in
    let read = subst (λ o. MatchOption o (Waited s t) (λ n. (n.code ≡ n.outcome.code) × IsRead s t n.handle n.ticket n.outcome n.left)) c.in-Some-2.is c.in_ok-message.ensures.read in
    next c.args.seat.now s t m.handle m.ticket m.outcome m.left c.loop.invariant.1 read.1

pub returns-in_err-message-clause-unread : goal.returns-in_err-message-clause-unread
returns-in_err-message-clause-unread g c =
    if_refused c.from_residual.result (unread_on c.args.seat.now c.loop.seat c.read_once.new.seat c.loop.invariant.1 c.in_err-message.ensures.unread)
