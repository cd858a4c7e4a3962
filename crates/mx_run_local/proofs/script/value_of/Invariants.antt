use Rattle.std.proofs.Common.{◌≡◌, ◌≤◌, take}
use Rattle.mx_run_local.specs.Script.{value_of}
use Rattle.mx_run_local.proofs.script.value_of.Given as goal

abbrev pub invariant-loop-digit : goal.invariant-loop-digit
invariant-loop-digit l = record {
  is : l.value ≡ value_of (take l.digit-index l.digits);
  fits : l.value ≤ 42949673214;
}
