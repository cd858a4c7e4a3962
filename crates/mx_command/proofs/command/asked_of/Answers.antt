use Rattle.std.proofs.Common.{subst}
use Rattle.std.specs.Prelude.{IfSome}
use Rattle.clap.specs.Words.{found_of}
use Rattle.mx_command.specs.Given.{IsGetOf}
use Rattle.mx_command.proofs.command.asked_of.Goals as goal

pub returns-in-Some-clause-given : goal.returns-in-Some-clause-given
returns-in-Some-clause-given c =
    let given = found_of c.in-Some.get.now in
    (given, subst (λ o. IfSome o (IsGetOf given)) c.in-Some-2.is c.in_ok-get.ensures.given)
