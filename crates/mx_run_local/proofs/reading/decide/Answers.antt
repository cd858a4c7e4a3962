use Rattle.std.proofs.Common.{sym, ◌∙◌}
use Rattle.mx_run_local.proofs.Received.{was_settled, front_none}
use Rattle.mx_run_local.proofs.Printed.{response_bytes}
use Rattle.mx_run_local.proofs.reading.decide.Goals as goal

pub returns-in-Ok-clause-decided : goal.returns-in-Ok-clause-decided
returns-in-Ok-clause-decided c bytes fed len =
    let s = was_settled c.args.decoder c.end.new.self bytes fed c.in-Ok.ensures.exact
    (λ decided. (c.in-Ok.ensures.over decided).0) (λ more. c.in-Ok.ensures.ended more) c.fault_stays_same.ensures.same c.complete_stays_same.ensures.same in
    record {
      behind = s.behind;
      whole = s.whole;
      decided = s.decided;
      method = s.method;
      exact = c.in-Ok.ensures.exact;
      ended = s.ended;
      len = sym len;
    }

pub returns-in-Err-clause-memory : goal.returns-in-Err-clause-memory
returns-in-Err-clause-memory c bytes fed none = response_bytes _ _ (front_none _ _ (sym none ∙ fed.whole)) c.in-Err.ensures.memory
