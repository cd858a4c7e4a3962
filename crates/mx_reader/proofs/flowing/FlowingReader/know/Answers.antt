use Rattle.std.proofs.Common.{subst}
use Rattle.mx_reader.specs.Readers.{IsReader, IsPrefixOfEach}
use Rattle.mx_reader.proofs.FlowingLemmas.{prefix_behind}
use Rattle.mx_reader.proofs.flowing.FlowingReader.know.Goals as goal

pub returns-clause-exact : goal.returns-clause-exact
returns-clause-exact c = subst IsReader c.self.view_is c.self.invariant.reader

pub returns-clause-front : goal.returns-clause-front
returns-clause-front c =
    let r = c.self.inside in
    subst IsPrefixOfEach c.self.view_is (prefix_behind r.stream r.behind r.stand r.ended r.keep c.know.ensures.front)
