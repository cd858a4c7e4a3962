use Rattle.std.proofs.Common.{subst}
use Rattle.mx_flow.specs.Streams.{StreamValue, HasEnd}
use Rattle.mx_flow.specs.declared.stream_state.StreamState.TheVariants as stand
use Rattle.mx_flow.proofs.StageProofs.{refused_ends, body_ends_so}
use Rattle.mx_flow.proofs.stream.Stream.end_state.Goals as goal

pub returns-in-BadFraming : goal.returns-in-BadFraming
returns-in-BadFraming c =
    subst (λ (v : StreamValue). HasEnd v (stand.Fault c.in-BadFraming.code)) c.self.view_is
    (refused_ends c.self.inside.method c.self.inside.limit c.self.inside.stage c.in-BadFraming.field-0 c.in-BadFraming.code c.self.invariant c.in-BadFraming.is)

pub returns-in-Body : goal.returns-in-Body
returns-in-Body c =
    subst (λ (v : StreamValue). HasEnd v c.end_body.result) c.self.view_is
    (body_ends_so c.self.inside.method c.self.inside.limit c.self.inside.stage c.in-Body.field-0 c.in-Body.flow c.end_body.result c.self.invariant c.in-Body.is c.end_body.ensures)
