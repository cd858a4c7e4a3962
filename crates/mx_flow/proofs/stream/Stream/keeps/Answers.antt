use Rattle.std.proofs.Common.{Bool, sym, subst}
use Rattle.mx_flow.specs.Streams.{TellsKeeps}
use Rattle.mx_flow.proofs.StageProofs.{tells_keeps}
use Rattle.mx_flow.proofs.stream.Stream.keeps.Goals as goal

pub returns-in-Some : goal.returns-in-Some
returns-in-Some c = subst (λ (b : Bool). TellsKeeps c.args.self.now.wire b) (sym c.keeps.ensures) (tells_keeps c.args.self.now c.in-Some.kept.now c.in-Some.ensures.some)
