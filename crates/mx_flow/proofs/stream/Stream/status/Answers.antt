use Rattle.std.proofs.Common.{ℕ, sym, subst}
use Rattle.mx_body.specs.Decision.{HasStatus}
use Rattle.mx_flow.proofs.StageProofs.{tells_status}
use Rattle.mx_flow.proofs.stream.Stream.status.Goals as goal

pub returns-in-Some : goal.returns-in-Some
returns-in-Some c =
    subst (λ (n : ℕ). HasStatus c.args.self.now.wire n) (sym c.status.ensures) (tells_status c.args.self.now c.in-Some.kept.now c.in-Some.ensures.some)
