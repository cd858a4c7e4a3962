use Rattle.std.proofs.Common.{length, subst, sym, take}
use Rattle.mx_run_get.proofs.Gets.{first_ends}
use Rattle.mx_run_get.specs.Asked.{AreEndsOf}
use Rattle.mx_run_get.specs.Getting.{GettingValue}
use Rattle.mx_run_get.proofs.fetch.end_of.Goals as goal

pub returns-clause-first : goal.returns-clause-first
returns-clause-first g c =
    let v = c.into_inner.result in
    let ends = g.T.TakeEnds.taken c.into_taker.result in
    let of = subst (λ ts. AreEndsOf v.options.timeout_ms v.options.max_redirects (take (length ts) v.urls) ts) (sym c.into_taker.ensures.taken) (first_ends v c.into_taker.ensures.asked) in
    subst (λ (d : GettingValue). AreEndsOf d.options.timeout_ms d.options.max_redirects (take (length ends) d.urls) ends) c.into_inner.ensures of
