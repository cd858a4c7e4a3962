use Rattle.std.proofs.Common.{◌≤◌, ◌<◌, ◌^◌, ◌-◌, arith}
use Rattle.std.proofs.Math.Pow.{pow_mono}
use Rattle.mx_save_rules.proofs.retry_rules.delay_ms.Goals as goal

pub returns-in_default : goal.returns-in_default
returns-in_default c =
    let many : 6 ≤ c.args.tries - 1 = omega (arith, c.in_default) in
    let long : 2 ^ 6 ≤ 2 ^ (c.args.tries - 1) = pow_mono many in
    omega (arith, long)
