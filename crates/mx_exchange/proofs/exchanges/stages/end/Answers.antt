use Rattle.std.proofs.Common.{rules, refl, ap}
use Rattle.mx_reader.specs.Readers.{ReaderValue}
use Rattle.mx_exchange.proofs.Whys.{tells_reason}
use Rattle.mx_exchange.proofs.exchanges.stages.end.Goals as goal

pub new-requires-clause-outcome : goal.new-requires-clause-outcome
new-requires-clause-outcome c = record {
  request = c.know.ensures;
  status = rw c.of-read.ensures c.status-status.ensures;
  location = rw (c.of-read.ensures, c.into_parts-kept.ensures.kept) c.location-location.ensures.bytes;
  order = c.requires.0;
  keeps = rw (c.of-read.ensures, c.into_parts-kept.ensures.kept) c.requires.2;
  judgement = c.args.reader.judgement;
  ends = rw c.of-read.ensures c.requires.1;
  parts = c.into_parts-kept.ensures.parts;
  content = rw c.of-read.ensures refl;
}

pub new-requires-clause-reason : goal.new-requires-clause-reason
new-requires-clause-reason c =
    let read = c.of-read.ensures in
    tells_reason _ c.args.reader (ap (λ (r : ReaderValue). r.limit) read) (ap (λ (r : ReaderValue). r.wire) read) c.requires.3 c.into_parts-kept.ensures.parts
    (ap (λ (r : ReaderValue). r.judgement.content) read) c.know-2.ensures.exact c.why-why.result c.why-why.ensures.some c.why-why.ensures.none

pub returns-clause-status : goal.returns-clause-status
returns-clause-status c = rw (c.new.ensures, c.of-read.ensures) c.status-status.ensures

pub returns-clause-code : goal.returns-clause-code
returns-clause-code c = search rules
