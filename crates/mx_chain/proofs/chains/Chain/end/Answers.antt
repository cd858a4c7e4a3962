use Rattle.std.proofs.Common.{ap, sym, ◌∙◌, Some, subst}
use Rattle.mx_chain.specs.Chains.{ChainState, IsChain}
use Rattle.mx_chain.specs.Followed.{FollowedHops}
use Rattle.mx_chain.specs.Outcomes.{IsChainEnd, outcome_of}
use Rattle.mx_chain.proofs.HopLemmas.{made}
use Rattle.mx_chain.proofs.StepLemmas.{ends_on}
use Rattle.mx_chain.proofs.chains.Chain.end.Goals as goal

abbrev followed : {L : Type 0} → ChainState L → FollowedHops
followed t = record { all = t.hops; heads_alone = t.heads_alone }

pub new-requires : goal.new-requires
new-requires g c =
    let same = c.self.view_is ∙ c.settle_home.ensures.same in
    let few = (subst (λ (x : ChainState _). IsChain x) same c.self.invariant.chain).few in
    let hops = c.take-hops.ensures.taken ∙ ap (λ (x : ChainState _). followed x) same in
    subst (λ (x : FollowedHops). IsChainEnd (outcome_of x.heads_alone x.all c.args.hop c.args.code)) (sym hops)
    (made _ _ _ _ _ c.requires.leads few c.know.ensures c.requires.kept c.requires.cause)

pub returns : goal.returns
returns g c =
    let same = c.self.view_is ∙ c.settle_home.ensures.same in
    let few = (subst (λ (x : ChainState _). IsChain x) same c.self.invariant.chain).few in
    let hops = c.take-hops.ensures.taken ∙ ap (λ (x : ChainState _). followed x) same in
    let none = c.take-hops.ensures.none in
    ends_on _ _ _ _ _ c.requires.unkept c.requires.leads few c.know.ensures c.requires.kept c.requires.cause
    (c.new.ensures ∙ ap (λ (x : FollowedHops). outcome_of x.heads_alone x.all c.args.hop c.args.code) hops)
    (λ i. record {
      request = ap (λ (x : ChainState _). x.request) same i;
      hops = ap (λ (x : FollowedHops). x.all) none i;
      heads_alone = (ap (λ (x : FollowedHops). x.heads_alone) none ∙ ap (λ (x : ChainState _). x.heads_alone) same) i;
      now = ap (λ (x : ChainState _). x.now) same i;
      linked = ap (λ (x : ChainState _). x.linked) same i;
      earlier = ap (λ (x : ChainState _). x.earlier) same i;
      code = Some c.args.code;
      link = c.self.inside.idle;
      home = c.self.inside.home;
      content = ap (λ (x : ChainState _). x.content) same i;
    })
    (rw (← c.self.view_is) at c.settle_home.ensures.home)
