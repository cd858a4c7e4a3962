use Rattle.std.proofs.Common.{◌≡◌, take}
use Rattle.mx_text.specs.Texts.{exit_status}
use Rattle.mx_text.proofs.run.exit_status.Given as goal

abbrev pub invariant-loop-one : goal.invariant-loop-one
invariant-loop-one l = exit_status (take l.one-index l.fetched) ≡ 0
