use Rattle.std.proofs.Common.{◌≡◌, take}
use Rattle.std.specs.Prelude.{sum_by}
use Rattle.mx_run_local.specs.BodyTexts.{part_len}
use Rattle.mx_run_local.proofs.body.body_len.Given as goal

abbrev pub invariant-loop-part : goal.invariant-loop-part
invariant-loop-part l = l.total ≡ sum_by part_len (take l.part-index l.parts)
