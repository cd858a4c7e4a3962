use Rattle.std.proofs.Common.{arith}
use Rattle.mx_reason.proofs.Fronts.{bracket_decides}
use Rattle.mx_reason.proofs.bracket.shortest.Goals as goal

pub returns : goal.returns
returns c =
    bracket_decides c.args.method c.args.wire.now c.args.code c.loop-bracket.bracket c.loop-bracket.invariant
    (omega (arith, c.loop-bracket-test.false, c.loop-bracket.invariant.order))
