use Rattle.std.proofs.Common.{rules, refl}
use Rattle.mx_gate.proofs.FirstLemmas.{are_spelled}
use Rattle.mx_gate.proofs.addresses.addresses_of.Goals as goal

pub returns-in-Ok-clause-of : goal.returns-in-Ok-clause-of
returns-in-Ok-clause-of g c =
    are_spelled c.args.endpoint.now _ _ _ c.new.result c.in-Some.ip
    c.in-Ok.ensures.one c.new.ensures.ip (search rules) c.new.ensures.flowinfo c.new.ensures.scope_id (search rules) refl
