use Rattle.std.proofs.Common.{rules}
use Rattle.std.proofs.lemmas.Fn.{filter_same}
use Rattle.mx_names.specs.Names.{stays}
use Rattle.mx_names.proofs.names.let_go.Goals as goal

pub returns-clause-stay : goal.returns-clause-stay
returns-clause-stay c = filter_same _ (stays c.args.host.now c.args.now) _ (λ x b f k. search rules) _ _ c.retain.ensures.filtered
