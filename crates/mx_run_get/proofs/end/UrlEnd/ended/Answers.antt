use Rattle.std.proofs.Common.{◌∙◌}
use Rattle.mx_run_get.proofs.Ends.{end_kept}
use Rattle.mx_run_get.proofs.end.UrlEnd.ended.Goals as goal

pub invariant_of-result : goal.invariant_of-result
invariant_of-result g = rw g.of.ensures (end_kept g.args.outcome g.know.ensures (λ e. g.code-code.ensures.content g.know.ensures.held (g.code-code.ensures.code ∙ e)))
