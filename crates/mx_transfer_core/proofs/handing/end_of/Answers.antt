use Rattle.std.proofs.Common.{◌∙◌, ap, sym}
use Rattle.std.specs.Prelude.{Option}
use Rattle.mx_types.specs.declared.code.Code.{Code}
use Rattle.mx_chain.specs.Outcomes.{settled}
use Rattle.mx_chain.proofs.HopLemmas.{flows_none}
use Rattle.mx_transfer_core.proofs.handing.end_of.Goals as goal

pub returns : goal.returns
returns g c =
    let is = rw c.in-Some.is at c.requires in
    record {
      failure = c.fault-failure.result;
      sinks = c.fault-failure.ensures.code;
      held = λ none. c.fault-failure.ensures.held (flows_none _ _ is.0 none);
      is = c.deliver.ensures ∙ ap (λ (f : Option Code). settled f c.args.end) (sym c.fault-failure.ensures.fault);
    }
