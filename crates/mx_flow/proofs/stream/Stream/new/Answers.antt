use Rattle.mx_flow.specs.declared.stage.Stage.TheVariants as stages
use Rattle.mx_flow.proofs.StreamProofs.{nothing_first}
use Rattle.mx_flow.proofs.StageProofs.{stage_is_stream}
use Rattle.mx_flow.proofs.stream.Stream.new.Goals as goal

pub invariant_of-result : goal.invariant_of-result
invariant_of-result c = nothing_first c.new.result c.new.ensures

pub returns-clause-exact : goal.returns-clause-exact
returns-clause-exact c = stage_is_stream c.args.method c.content_limit.result (stages.Heads c.new.result) (nothing_first c.new.result c.new.ensures)
