use Rattle.std.proofs.Common.{◌-◌}
use Rattle.mx_reason.specs.Steps.{IsBracket}
use Rattle.mx_reason.proofs.bracket.shortest.Given as goal

abbrev pub invariant-loop-bracket : goal.invariant-loop-bracket
invariant-loop-bracket l = IsBracket l.method l.wire l.code l.bracket

abbrev pub decreases-loop-bracket : goal.decreases-loop-bracket
decreases-loop-bracket l = l.bracket.decided - l.bracket.undecided
