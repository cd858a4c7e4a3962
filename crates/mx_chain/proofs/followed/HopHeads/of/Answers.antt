use Rattle.std.proofs.Common.{List, ℕ, take, ap, sym, subst, ◌∙◌}
use Rattle.mx_body.specs.Decision.{HasHeads}
use Rattle.mx_chain.proofs.HopLemmas.{heads_kept}
use Rattle.mx_chain.proofs.followed.HopHeads.of.Goals as goal

pub invariant_of-result : goal.invariant_of-result
invariant_of-result c =
    let bytes = c.shrink_to_fit.ensures.items ∙ c.truncate.ensures.items ∙ ap (λ (l : List ℕ). take c.heads_len-count.result l) (c.into_parts-request.ensures.kept ∙ sym c.kept.ensures.kept) in
    rw c.of-ended.ensures (record {
      request = c.into_parts-request.ensures.request;
      status = c.status-status.ensures.status;
      heads = subst (λ (l : List ℕ). HasHeads c.args.hop.wire l) (sym bytes)
          (heads_kept c.args.hop.limit c.args.hop.wire c.kept.result.now (take c.heads_len-count.result c.kept.result.now) c.kept.ensures.keeps c.heads_len-count.ensures.heads);
    })
