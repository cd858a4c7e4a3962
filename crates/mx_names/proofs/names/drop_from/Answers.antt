use Rattle.std.proofs.Common.{rules, not, ◌&&◌}
use Rattle.std.proofs.lemmas.Fn.{filter_same}
use Rattle.mx_names.specs.Names.{is_of, is_under_way}
use Rattle.mx_names.proofs.names.drop_from.Goals as goal

pub returns : goal.returns
returns c = filter_same _ (λ state. not (is_of c.args.host.now state && is_under_way state)) _ (λ x b f k. search rules) _ _ c.retain.ensures.filtered
