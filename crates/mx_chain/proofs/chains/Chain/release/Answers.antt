use Rattle.mx_chain.specs.Chains.{released}
use Rattle.mx_chain.specs.Passing.{passed}
use Rattle.mx_chain.proofs.StepLemmas.{released_content}
use Rattle.mx_chain.proofs.chains.Chain.release.Goals as goal

pub returns-in_default : goal.returns-in_default
returns-in_default g c =
    rw (← c.self.view_is, c.take_link.ensures.rest, ← c.in_default.ensures.link) (λ i. record {
      request = c.self.inside.about.value;
      hops = c.self.inside.hops.all;
      heads_alone = c.self.inside.hops.heads_alone;
      now = released c.self.inside.exchange;
      linked = c.self.inside.is_linked;
      earlier = c.self.inside.earlier;
      code = c.self.inside.code;
      link = c.self.inside.idle;
      home = c.self.inside.home;
      content = passed c.self.inside.drops (released_content c.self.inside.exchange i);
    })
