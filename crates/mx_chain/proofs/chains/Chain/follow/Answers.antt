use Rattle.std.proofs.Common.{◌≡◌, sym, ◌∙◌, ◌++◌, ◌∷◌, [], false, None, arith, length-append}
use Rattle.mx_exchange.specs.Exchanges.{renewed}
use Rattle.mx_chain.specs.Chains.{counted, bytes_in}
use Rattle.mx_chain.specs.Hops.{memory}
use Rattle.mx_chain.specs.Passing.{passed}
use Rattle.mx_chain.proofs.HopLemmas.{leads_on, bytes_more}
use Rattle.mx_chain.proofs.StepLemmas.{follows_on, goes_on_same, kept_with}
use Rattle.mx_chain.proofs.chains.Chain.follow.Goals as goal

pub invariant_of-self : goal.invariant_of-self
invariant_of-self g c = record {
  most = c.self.invariant.most;
  chain = kept_with _ _ _ (rw (← c.self.view_is) at c.requires.ended) c.self.invariant.chain (rw c.in-Err.ensures.items c.self.invariant.chain.few) c.in-Err.ensures.same;
}

pub end-requires-clause-cause : goal.end-requires-clause-cause
end-requires-clause-cause g c =
    let follows = rw (← c.self.view_is) at c.requires.follows in
    rw (c.in-Err.ensures.items, c.in-Err.ensures.value_returned) (memory follows.0 follows.1)

pub returns-in-Err : goal.returns-in-Err
returns-in-Err g c =
    rw (← c.self.view_is) (goes_on_same _ _ _ _ _ _ (λ i. record {
      request = c.self.inside.about.value;
      hops = c.in-Err.ensures.items i;
      heads_alone = c.in-Err.ensures.same i;
      now = c.self.inside.exchange;
      linked = c.self.inside.is_linked;
      earlier = c.self.inside.earlier;
      code = c.self.inside.code;
      link = c.self.inside.idle;
      home = c.self.inside.home;
      content = passed c.self.inside.drops c.self.inside.exchange.content;
    }) c.in-Err.ensures.value_returned c.end.ensures)

pub invariant_of-self-in-Ok : goal.invariant_of-self-in-Ok
invariant_of-self-in-Ok g c =
    let follows = rw (← c.self.view_is) at c.requires.follows in
    record {
      most = c.self.invariant.most;
      chain = kept_with _ _ _ (rw (← c.self.view_is) at c.requires.ended) c.self.invariant.chain
          (rw c.in-Ok.ensures.items (omega (arith, follows.1, length-append c.self.inside.hops.all (c.args.hop ∷ [])))) c.in-Ok.ensures.same;
    }

pub begin-requires-clause-leads : goal.begin-requires-clause-leads
begin-requires-clause-leads g c =
    let follows = rw (← c.self.view_is) at c.requires.follows in
    let leads = rw (← c.self.view_is) at c.requires.leads in
    rw c.in-Ok.ensures.items (leads_on _ _ _ _ _ leads follows.0 c.know.ensures follows.2)

pub begin-requires-clause-few : goal.begin-requires-clause-few
begin-requires-clause-few g c =
    let follows = rw (← c.self.view_is) at c.requires.follows in
    rw c.in-Ok.ensures.items (omega (arith, follows.1, length-append c.self.inside.hops.all (c.args.hop ∷ [])))

pub begin-requires-clause-bytes : goal.begin-requires-clause-bytes
begin-requires-clause-bytes g c =
    let was = rw (← c.self.view_is) at c.requires.bytes in
    let wire = rw (← c.self.view_is) at c.requires.wire in
    let bytes : c.saturating_add-count.result ≡ bytes_in (c.self.inside.hops.all ++ c.args.hop ∷ []) =
    omega (arith, c.saturating_add-count.ensures, c.received.ensures, was, wire, bytes_more c.self.inside.hops.all c.args.hop) in
    rw c.in-Ok.ensures.items bytes

pub returns-in-Ok : goal.returns-in-Ok
returns-in-Ok g c =
    let follows = rw (← c.self.view_is) at c.requires.follows in
    let unkept = rw (← c.self.view_is) at c.requires.unkept in
    let count : c.saturating_add-count.result ≡ counted c.self.inside.earlier c.self.inside.exchange.received = omega (arith, c.saturating_add-count.ensures, c.received.ensures) in
    rw (← c.self.view_is) (follows_on _ _ _ _ unkept follows (c.begin.ensures ∙ (λ i. record {
      request = c.self.inside.about.value;
      hops = c.in-Ok.ensures.items i;
      heads_alone = c.in-Ok.ensures.same i;
      now = renewed c.self.inside.exchange c.args.next;
      linked = false;
      earlier = count i;
      code = None;
      link = c.self.inside.idle;
      home = c.self.inside.home;
      content = [];
    })))

pub end-requires-clause-kept : goal.end-requires-clause-kept
end-requires-clause-kept g c = rw c.in-Err.ensures.value_returned (λ e. (rw (← c.self.view_is) at c.requires.kept) (sym c.in-Err.ensures.same ∙ e))
