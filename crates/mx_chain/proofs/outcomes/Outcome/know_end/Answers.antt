use Rattle.std.proofs.Common.{◌∙◌, ap, refl, sym}
use Rattle.std.specs.Prelude.{Option}
use Rattle.mx_types.specs.declared.code.Code.{Code}
use Rattle.mx_chain.specs.Outcomes.{outcome_of, settled}
use Rattle.mx_chain.proofs.HopLemmas.{flows_none}
use Rattle.mx_chain.proofs.outcomes.Outcome.know_end.Goals as goal

pub returns-clause-end : goal.returns-clause-end
returns-clause-end g c =
    let o = outcome_of c.self.inside.earlier.heads_alone c.self.inside.earlier.all c.self.inside.last c.self.inside.code in
    rw (← c.self.view_is) (record {
      end = o;
      chain = c.self.invariant.end;
      ends = record {
        failure = c.fault-failure.result;
        sinks = c.fault-failure.ensures.code;
        held = λ none. c.fault-failure.ensures.held (flows_none _ _ c.self.invariant.limit none);
        is = ap (λ (f : Option Code). settled f o) (sym c.fault-failure.ensures.fault);
      };
    })
