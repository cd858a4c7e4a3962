use Rattle.mx_flow.proofs.StreamProofs.{end_decides, end_is_none}
use Rattle.mx_flow.proofs.stream.Stream.end.Goals as goal

pub returns-clause-decides : goal.returns-clause-decides
returns-clause-decides c = end_decides c.args.self.now c.end_state.result c.end_state.ensures

pub returns-clause-none : goal.returns-clause-none
returns-clause-none c = end_is_none c.args.self.now c.end_state.result c.end_state.ensures
