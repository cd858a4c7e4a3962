use Rattle.mx_run_local.proofs.Explaining.{why_none}
use Rattle.mx_run_local.proofs.explain.why.Goals as goal

pub returns : goal.returns
returns c bytes read =
    why_none _ bytes _ _ read c.one_verdict.ensures.verdict (rw (← c.wire.ensures) c.reason_of.ensures.some)
    (rw (← c.wire.ensures) c.reason_of.ensures.none)
