use Rattle.std.proofs.Common.{subst}
use Rattle.mx_body.specs.Decoder.{HasVerdictCode}
use Rattle.mx_reader.specs.Readers.{IsReader}
use Rattle.mx_reader.proofs.CodeLemmas.{reader_code}
use Rattle.mx_reader.proofs.StateLemmas.{ended_so}
use Rattle.mx_reader.proofs.flowing.FlowingReader.end.Goals as goal

pub returns-in-Complete-clause-exact : goal.returns-in-Complete-clause-exact
returns-in-Complete-clause-exact c = subst IsReader c.self.view_is c.self.invariant.reader

pub returns-in-Fault-clause-code : goal.returns-in-Fault-clause-code
returns-in-Fault-clause-code c = subst HasVerdictCode c.in-Fault.is (reader_code _ c.self.invariant.reader)

pub invariant_of-self : goal.invariant_of-self
invariant_of-self c =
    let r = c.self.inside in
    ended_so r.stream r.behind r.ended r.keep r.is_all r.fed r.stand c.stand_by-self-inside.result c.end.result c.self.invariant c.in-More.is c.know.ensures.exact
    c.end.ensures.end c.end.ensures.decides c.stand_by-self-inside.ensures

pub returns-clause-exact : goal.returns-clause-exact
returns-clause-exact c = (invariant_of-self c).reader
