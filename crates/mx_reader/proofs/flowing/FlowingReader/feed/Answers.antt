use Rattle.std.proofs.Common.{subst}
use Rattle.mx_body.specs.Decoder.{HasVerdictCode}
use Rattle.mx_reader.specs.Readers.{IsReader}
use Rattle.mx_reader.proofs.CodeLemmas.{reader_code}
use Rattle.mx_reader.proofs.flowing.FlowingReader.feed.Goals as goal

pub returns-in-Complete-clause-exact : goal.returns-in-Complete-clause-exact
returns-in-Complete-clause-exact c = subst IsReader c.self.view_is c.self.invariant.reader

pub returns-in-Fault-clause-code : goal.returns-in-Fault-clause-code
returns-in-Fault-clause-code c = subst HasVerdictCode c.in-Fault.is (reader_code _ c.self.invariant.reader)

pub returns-clause-code : goal.returns-clause-code
returns-clause-code c = reader_code _ c.self-2.invariant.reader
