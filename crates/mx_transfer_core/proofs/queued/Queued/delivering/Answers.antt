use Rattle.std.proofs.Common.{ap, ◌∙◌}
use Rattle.mx_chain.specs.Chains.{ChainState}
use Rattle.mx_transfer_core.proofs.HandedOn.{begins_empty, none_handed}
use Rattle.mx_transfer_core.proofs.queued.Queued.delivering.Goals as goal

pub returns-clause-back : goal.returns-clause-back
returns-clause-back g c = none_handed (λ e. g.D.Delivery.handed e.value.1) _ c.boxed.result (ap (λ (s : ChainState _). s.content) c.delivering.ensures ∙ begins_empty _ (g.D.Delivery.flows c.args.delivery) c.args.request) c.boxed.ensures.back
