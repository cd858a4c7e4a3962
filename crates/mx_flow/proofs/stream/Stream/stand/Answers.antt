use Rattle.std.proofs.Common.{subst}
use Rattle.mx_flow.specs.Streams.{IsStream}
use Rattle.mx_flow.proofs.StageProofs.{stage_is_stream}
use Rattle.mx_flow.proofs.stream.Stream.stand.Goals as goal

pub returns-in-BadHeads-clause-exact : goal.returns-in-BadHeads-clause-exact
returns-in-BadHeads-clause-exact c = subst IsStream c.self.view_is (stage_is_stream c.self.inside.method c.self.inside.limit c.self.inside.stage c.self.invariant)

pub returns-in-BadFraming-clause-exact : goal.returns-in-BadFraming-clause-exact
returns-in-BadFraming-clause-exact c = subst IsStream c.self.view_is (stage_is_stream c.self.inside.method c.self.inside.limit c.self.inside.stage c.self.invariant)

pub returns-in-Body-clause-exact : goal.returns-in-Body-clause-exact
returns-in-Body-clause-exact c = subst IsStream c.self.view_is (stage_is_stream c.self.inside.method c.self.inside.limit c.self.inside.stage c.self.invariant)
