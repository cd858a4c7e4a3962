use Rattle.std.proofs.Common.{Some, sym, ap, ◌∙◌}
use Rattle.mx_request.specs.Request.{refusal_of}
use Rattle.mx_run_save.specs.Asked.{option_name}
use Rattle.mx_run_save.proofs.Refused.{named}
use Rattle.mx_run_save.proofs.asked.option_of.Goals as goal

pub returns : goal.returns
returns c =
    named c.args.asking.now.settings c.args.why c.requires.refused
    ∙ ap (λ s. Some (option_name c.args.why (refusal_of s))) (sym c.drop_agent.ensures)
    ∙ ap (λ w. Some (option_name c.args.why w)) (sym c.in_ok-without_agent.ensures)
    ∙ ap Some (sym c.option_name.ensures)
