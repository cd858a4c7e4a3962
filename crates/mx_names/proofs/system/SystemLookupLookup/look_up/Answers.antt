use Rattle.std.proofs.Common.{◌∙◌}
use Rattle.mx_names.proofs.GivenLemmas.{is_given}
use Rattle.mx_names.proofs.system.SystemLookupLookup.look_up.Goals as goal

pub returns-in-Some-clause-gives : goal.returns-in-Some-clause-gives
returns-in-Some-clause-gives g c =
    let ran = c.in-Ok-collect.ensures.ran in
    is_given c.args.host.now c.in-Ok.found ran.0 c.in-Some.addresses c.in-Ok.ensures.gives ran.1 (c.in-Some.ensures ∙ ran.2.0)
