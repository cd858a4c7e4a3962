use Rattle.std.proofs.Common.{◌≡◌, rules, subst}
use Rattle.std.specs.Prelude.{MatchOption}
use Rattle.mx_save_urls.specs.Asked.{EndsRequest}
use Rattle.mx_save_urls.proofs.Asked.{asked_less, ended_for}
use Rattle.mx_save_urls.proofs.turns.await_some.Goals as goal

pub end_one-requires-clause-asked : goal.end_one-requires-clause-asked
end_one-requires-clause-asked g c = λ awaits.
    let old = g.K.Requests.asked c.loop.desk in
    let new = g.K.Requests.asked c.next.new.self in
    let book = c.loop.work.book in
    let e = c.in-Some.message in
    let ends = subst (λ o. MatchOption o (new ≡ old) (λ f. EndsRequest old new f.at f.outcome.request)) c.in-Some.is c.in_ok-message.ensures in
    ended_for book.asking book.slots old e.at e.ticket e.outcome.request awaits ends.added c.loop.invariant.all

pub loop-preserved : goal.loop-preserved
loop-preserved g c =
    let old = g.K.Requests.asked c.loop.desk in
    let new = g.K.Requests.asked c.next.new.self in
    let book = c.loop.work.book in
    let also = c.end_one.new.work.book in
    let e = c.in-Some.message in
    let after = c.in_ok-end_one.ensures in
    let ends = subst (λ o. MatchOption o (new ≡ old) (λ f. EndsRequest old new f.at f.outcome.request)) c.in-Some.is c.in_ok-message.ensures in
    record {
      all = asked_less book.asking also.asking book.slots also.slots old new e.at after.run.book.asking after.closed ends.asked c.loop.invariant.all;
      waits = after.waits;
      going = after.going;
      run = search rules;
    }
