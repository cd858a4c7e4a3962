use Rattle.std.proofs.Common.{arith}
use Rattle.mx_reason.proofs.Fronts.{bracket_less}
use Rattle.mx_reason.proofs.bracket.Bracket.narrow.Goals as goal

pub returns-in_default : goal.returns-in_default
returns-in_default c = record {
  bracket = bracket_less c.args.method c.args.wire.now c.args.code c.args.self c.args.probe c.judge.result c.requires
      (omega (arith, c.if-probe-self.false)) (omega (arith, c.if-self-probe.false)) c.judge.ensures c.in_default.not-Open;
  narrower = λ above below. omega (arith, above, below);
}
