use Rattle.mx_body.specs.Decision.{bytes_at}
use Rattle.mx_exchange.proofs.StageLemmas.{sends_then, sends_else}
use Rattle.mx_exchange.proofs.exchanges.Exchange.sends_on.Goals as goal

pub returns-then-is_redirect : goal.returns-then-is_redirect
returns-then-is_redirect g c =
    let alive = rw c.in-Live.is at c.self.invariant.stage in
    rw (← c.self.view_is, c.in-Live.is, ← alive.going.wire) (record {
      status = c.status-status.result;
      location = bytes_at c.in-Live.live.reader.kept c.location-location.result;
      has = c.status-status.ensures;
      tells = c.location-location.ensures.bytes;
      sends_is = sends_then c.status-status.result c.in-Live.live.reader.kept c.location-location.result c.is_redirect.result c.is_some.result c.is_redirect.ensures c.if-is_redirect.true c.is_some.ensures;
    })

pub returns-else-is_redirect : goal.returns-else-is_redirect
returns-else-is_redirect g c =
    let alive = rw c.in-Live.is at c.self.invariant.stage in
    rw (← c.self.view_is, c.in-Live.is, ← alive.going.wire) (record {
      status = c.status-status.result;
      location = bytes_at c.in-Live.live.reader.kept c.location-location.result;
      has = c.status-status.ensures;
      tells = c.location-location.ensures.bytes;
      sends_is = sends_else c.status-status.result c.in-Live.live.reader.kept c.location-location.result c.is_redirect.result c.is_redirect.ensures c.if-is_redirect.false;
    })
