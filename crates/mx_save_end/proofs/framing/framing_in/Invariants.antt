use Rattle.std.proofs.Common.{◌+◌, ◌-◌}
use Rattle.mx_head.specs.Limits.{most_interim}
use Rattle.mx_body.specs.Steps.{IsBehind}
use Rattle.mx_save_end.proofs.framing.framing_in.Given as goal

abbrev pub invariant-loop-end : goal.invariant-loop-end
invariant-loop-end l = IsBehind l.wire l.start l.passed

abbrev pub decreases-loop-end : goal.decreases-loop-end
decreases-loop-end l = (most_interim + 1) - l.passed
