use Rattle.std.proofs.Common.{◌∙◌}
use Rattle.mx_message.proofs.Messages.{delivers}
use Rattle.mx_message.proofs.next.know.Goals as goal

pub returns-clause-body : goal.returns-clause-body
returns-clause-body g c = λ ok.
    let is = c.code-code.ensures.code ∙ ok in
    delivers _ c.know_end.ensures.end c.know_end.ensures.all (c.code-code.ensures.body is) (c.code-code.ensures.handed is) (λ held. c.code-code.ensures.content held is) ok
