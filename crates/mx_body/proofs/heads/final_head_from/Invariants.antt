use Rattle.std.proofs.Common.{◌+◌, ◌-◌}
use Rattle.mx_head.specs.Limits.{most_interim}
use Rattle.mx_body.specs.Steps.{HavePassed}
use Rattle.mx_body.proofs.heads.final_head_from.Given as goal

abbrev pub invariant-loop-end : goal.invariant-loop-end
invariant-loop-end l = HavePassed l.text l.passed

abbrev pub decreases-loop-end : goal.decreases-loop-end
decreases-loop-end l = (most_interim + 1) - l.passed.count
