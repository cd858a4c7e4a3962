use Rattle.std.proofs.Common.{ap}
use Rattle.mx_reader.specs.Readers.{ReaderValue}
use Rattle.mx_exchange.proofs.exchanges.Exchange.probe_first.Goals as goal

pub returns-clause-probe : goal.returns-clause-probe
returns-clause-probe g c = rw (c.go_on.ensures, ← c.take-live.ensures.is) c.probe-serves.ensures.probe

pub returns-clause-token : goal.returns-clause-token
returns-clause-token g c = rw (c.go_on.ensures, ← c.take-live.ensures.is) c.probe-serves.ensures.token

pub returns-clause-content : goal.returns-clause-content
returns-clause-content g c = rw (c.go_on.ensures, ← c.take-live.ensures.is) (ap (λ (r : ReaderValue). r.judgement.content) c.probe-serves.ensures.unread)
