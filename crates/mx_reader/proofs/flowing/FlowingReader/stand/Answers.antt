use Rattle.std.proofs.Common.{subst}
use Rattle.mx_reader.specs.Readers.{IsReader}
use Rattle.mx_reader.proofs.flowing.FlowingReader.stand.Goals as goal

pub returns-clause-exact : goal.returns-clause-exact
returns-clause-exact c = subst IsReader c.self.view_is c.self.invariant.reader
