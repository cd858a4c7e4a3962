use Rattle.std.proofs.Common.{◌≡◌, MatchOption, subst}
use Rattle.mx_message.specs.Message.{IsRead, Waited}
use Rattle.mx_message.proofs.Messages.{polled}
use Rattle.mx_message.proofs.next.read_once.Goals as goal

pub returns-in-Ok-clause-read : goal.returns-in-Ok-clause-read
returns-in-Ok-clause-read g c =
    let s = c.args.seat.now in
    let t = c.read_now.new.seat in
    polled _ _ _ (subst (λ o. MatchOption o (Waited s t) (λ n. (n.code ≡ n.outcome.code) × IsRead s t n.handle n.ticket n.outcome n.left)) c.in-None.is c.in_ok-message.ensures.read) c.in-Ok.ensures.stands
