use Rattle.mx_flow.proofs.StreamProofs.{prefix_of_each, content_within}
use Rattle.mx_flow.proofs.stream.Stream.know.Goals as goal

pub returns-clause-front : goal.returns-clause-front
returns-clause-front c = prefix_of_each c.args.self.now c.stand-stand.ensures.exact

pub returns-clause-within : goal.returns-clause-within
returns-clause-within c = content_within c.args.self.now c.stand-stand.ensures.exact
