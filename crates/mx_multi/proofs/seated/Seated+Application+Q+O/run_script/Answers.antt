use Rattle.std.proofs.Common.{◌+◌, ap, refl}
use Rattle.mx_multi.proofs.Runs.{script_none, script_more}
use Rattle.mx_multi.proofs.seated.Seated+Application+Q+O.run_script.Goals as goal

pub loop-call-init : goal.loop-call-init
loop-call-init g c = (script_none _, refl)

pub loop-call-preserved : goal.loop-call-preserved
loop-call-preserved g c =
    (script_more _ _ _ c.args.script.now _ _ _ _ c.loop-call.invariant.1 c.loop-call-test.true c.loop-call.invariant.0 c.in-Some.ensures, ap (λ n. n + 1) c.loop-call.invariant.1)
