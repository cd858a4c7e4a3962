use Rattle.std.proofs.Common.{◌≡◌, ◌∙◌, List, Some, refl, sym, ap, rules}
use Rattle.mx_link.specs.Answers.{given}
use Rattle.mx_link.specs.declared.answers.Answer.{Answer}
use Rattle.mx_exchange.proofs.StageLemmas.{dropped_by, wants_fresh}
use Rattle.mx_line.proofs.Steps.{unhanded}
use Rattle.mx_exchange.proofs.exchanges.Exchange.probe.Goals as goal

pub invariant_of-self : goal.invariant_of-self
invariant_of-self g c = record {
  stage = wants_fresh _ _ _ _ _ _ _ _ (rw (← c.self.view_is) at c.requires.away) c.self.invariant.stage;
  failed = c.self.invariant.failed;
}

pub returns-clause-probe : goal.returns-clause-probe
returns-clause-probe g c =
    let had : c.args.live.now.line ≡ Some c.in-Some.line = c.in-Some.is in
    let needed = sym c.if-not-needs_probe.ensures in
    let serves = rw had at c.requires.live.serves in
    let silent = (serves.line.unprobed needed).1 in
    let going = rw had at c.requires.live.going in
    let wire = going.wire ∙ ap (λ (l : List Answer). given l) silent in
    let found = c.if-probe.ensures.probed in
    record {
      link = c.in-Some.line.link;
      gone = c.probe.new.self.link;
      answer = found.0;
      needed = rw had needed;
      had = rw had refl;
      told = found.1.told;
      read = found.1.read;
      unblocked = found.2;
      after = rw (← c.self.view_is) (rw (← c.self.view_is) at (dropped_by c.args.self.now c.args.live.now wire (unhanded _ _ _ going wire)));
    }

pub returns-then-not-needs_probe-clause-probe : goal.returns-then-not-needs_probe-clause-probe
returns-then-not-needs_probe-clause-probe g c = search rules

pub returns-then-not-needs_probe-clause-live : goal.returns-then-not-needs_probe-clause-live
returns-then-not-needs_probe-clause-live g c = search rules
