use Rattle.std.proofs.Common.{◌≡◌, MatchOption, subst}
use Rattle.mx_message.specs.Message.{IsRead, Waited}
use Rattle.mx_message.proofs.Messages.{next, next_of, unread_from, waited_none, waited_on}
use Rattle.mx_message.proofs.next.next_end_within.Goals as goal

pub returns-in-Some-clause-message : goal.returns-in-Some-clause-message
returns-in-Some-clause-message g c =
    let s = c.args.seat.now in
    let t = c.read_now.new.seat in
    let m = c.in-Some.message in
    let read = subst (λ o. MatchOption o (Waited s t) (λ n. (n.code ≡ n.outcome.code) × IsRead s t n.handle n.ticket n.outcome n.left)) c.in-Some.is c.in_ok-message.ensures.read in
    next s s t m.handle m.ticket m.outcome m.left (waited_none s) read.1

pub returns-in_ok-poll_within-in-None-clause-unread : goal.returns-in_ok-poll_within-in-None-clause-unread
returns-in_ok-poll_within-in-None-clause-unread g c =
    let s = c.args.seat.now in
    let a = c.read_now.new.seat in
    let first = subst (λ o. MatchOption o (Waited s a) (λ n. (n.code ≡ n.outcome.code) × IsRead s a n.handle n.ticket n.outcome n.left)) c.in-None.is c.in_ok-message.ensures.read in
    unread_from s c.poll_within.new.seat c.read_now-in-None.new.seat c.read_now-in-None.result
    (waited_on s a c.poll_within.new.seat first c.in_ok-poll_within-in-None.ensures.waited) c.read_now-in-None.ensures.unread

pub returns-in_ok-poll_within-in-None-clause-message : goal.returns-in_ok-poll_within-in-None-clause-message
returns-in_ok-poll_within-in-None-clause-message g c =
    let s = c.args.seat.now in
    let a = c.read_now.new.seat in
    let first = subst (λ o. MatchOption o (Waited s a) (λ n. (n.code ≡ n.outcome.code) × IsRead s a n.handle n.ticket n.outcome n.left)) c.in-None.is c.in_ok-message.ensures.read in
    next_of s c.poll_within.new.seat c.read_now-in-None.new.seat c.read_now-in-None.result
    (waited_on s a c.poll_within.new.seat first c.in_ok-poll_within-in-None.ensures.waited) c.read_now-in-None.ensures.read
