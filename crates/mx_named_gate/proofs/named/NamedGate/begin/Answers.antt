use Rattle.std.proofs.Common.{rules}
use Rattle.mx_names.specs.declared.answer.HostAnswer.TheVariants as answers
use Rattle.mx_named_gate.proofs.NamedLemmas.{are_told}
use Rattle.mx_named_gate.proofs.named.NamedGate.begin.Goals as goal

pub returns-in-Ok-clause-addresses : goal.returns-in-Ok-clause-addresses
returns-in-Ok-clause-addresses g c =
    are_told g.L.Lookup.gives c.args.endpoint.now c.in-Known.addresses _ _ _ (search rules) (search rules) (search rules)

pub returns-in-Ok-clause-by : goal.returns-in-Ok-clause-by
returns-in-Ok-clause-by g c =
    record { answer = answers.Known c.in-Known.addresses; heard = search rules; opens = (search rules, search rules); spent = search rules }

pub returns-in-Known-clause-by : goal.returns-in-Known-clause-by
returns-in-Known-clause-by g c =
    record { answer = answers.Known c.in-Known.addresses; heard = search rules; opens = (search rules, search rules); spent = search rules }
