use Rattle.mx_run_local.proofs.Words.{value_grows, too_big}
use Rattle.std.proofs.Common.{◌≤◌, arith, take}
use Rattle.mx_run_local.specs.Script.{value_of}
use Rattle.mx_run_local.proofs.script.value_of.Goals as goal

pub returns-then-value-gt4294967295 : goal.returns-then-value-gt4294967295
returns-then-value-gt4294967295 c =
    let ds = c.args.digits.now in
    let few : value_of (take c.loop-digit.digit-index ds) ≤ value_of ds = value_grows 0 ds c.loop-digit.digit-index in
    let is = c.loop-digit.invariant.is in
    let more = c.if-value-gt4294967295.true in
    too_big _ (omega (arith, few, is, more))
