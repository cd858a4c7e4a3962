use Rattle.std.proofs.Common.{◌+◌, ◌++◌, get_or, take, drop, refl, ap, ◌∙◌}
use Rattle.mx_save_rules.specs.Left.{entries_after, then}
use Rattle.mx_save_rules.proofs.Lists.{took}
use Rattle.mx_save_rules.proofs.list.UrlList.next_held.Goals as goal

pub returns-in-Some-clause-said : goal.returns-in-Some-clause-said
returns-in-Some-clause-said g c = λ rest.
    let s = c.loop-self.self in
    c.loop-self.invariant.left rest
    ∙ took s.line c.take.new.self s.buffer s.start s.end (get_or s.buffer s.start 0) c.in_ok-said.said c.loop-self-test.true s.room refl c.in_ok-said.ensures.taken rest
    ∙ ap (λ said. then said (entries_after c.take.new.self (drop (s.start + 1) (take s.end s.buffer) ++ rest))) c.in-Some.is

pub loop-self-preserved : goal.loop-self-preserved
loop-self-preserved g c =
    let s = c.loop-self.self in
    record {
      left = λ rest.
          c.loop-self.invariant.left rest
          ∙ took s.line c.take.new.self s.buffer s.start s.end (get_or s.buffer s.start 0) c.in_ok-said.said c.loop-self-test.true s.room refl c.in_ok-said.ensures.taken rest
          ∙ ap (λ said. then said (entries_after c.take.new.self (drop (s.start + 1) (take s.end s.buffer) ++ rest))) c.in-None.is;
      reader = c.loop-self.invariant.reader;
    }
