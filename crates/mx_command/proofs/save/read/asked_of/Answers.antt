use Rattle.std.proofs.lemmas.Result.{IfOk-weaker}
use Rattle.clap.specs.Words.{found_of}
use Rattle.mx_command.proofs.save.read.asked_of.Goals as goal

pub returns-in-Some-clause-given : goal.returns-in-Some-clause-given
returns-in-Some-clause-given c =
    let given = found_of c.in-Some.save.now in
    IfOk-weaker c.save_of.result _ _ (λ asked is. IfOk-weaker asked _ _ (λ save of. (given, of)) is) c.save_of.ensures.given
