use Rattle.std.proofs.Common.{subst}
use Rattle.std.specs.Prelude.{MatchOption}
use Rattle.mx_desk.specs.Desks.{Ends, Stays}
use Rattle.mx_fetch.proofs.Lists.{on_ok}
use Rattle.mx_run_get.proofs.Gets.{awaited_less, ended_for}
use Rattle.mx_run_get.proofs.getting.Getting.await_one.Goals as goal

pub note-requires : goal.note-requires
note-requires g c =
    let old = c.args.desk.now in
    let new = c.next.new.self in
    let e = c.in-Some.ended in
    let ends = subst (λ o. MatchOption o (Stays old new) (λ f. Ends old new f.at f.outcome.request)) c.in-Some.is c.in_ok-ended.ensures.ended in
    record { asked = ended_for c.args.self.now.places old.asked e.at e.outcome.request ends.added c.requires.all }

pub returns-in-Some-clause-all : goal.returns-in-Some-clause-all
returns-in-Some-clause-all g c =
    let old = c.args.desk.now in
    let new = c.next.new.self in
    let e = c.in-Some.ended in
    let ends = subst (λ o. MatchOption o (Stays old new) (λ f. Ends old new f.at f.outcome.request)) c.in-Some.is c.in_ok-ended.ensures.ended in
    on_ok c.note.result
    (λ noted. awaited_less c.args.self.now.places c.note.new.self.places old.asked new.asked e.at e.outcome noted.1 ends.asked c.requires.all)
    c.note.ensures.noted
