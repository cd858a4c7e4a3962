use Rattle.std.proofs.Common.{◌≡◌, ap}
use Rattle.mx_turn.specs.Idle.{Idle}
use Rattle.mx_turn.proofs.Takes.{TakesNewest-at}
use Rattle.mx_turn.proofs.idle.IdleCache.take.Goals as goal

pub returns-clause-links : goal.returns-clause-links
returns-clause-links g c =
    let found = c.in_ok-newest.ensures in
    let links : c.self.inside.links.items ≡ c.args.self.now.links = ap (λ (cache : Idle g.row.L.Denot). cache.links) c.self.view_is in
    TakesNewest-at c.args.endpoint.now c.args.self.now.links c.remove.new.self.items c.in_ok-newest.newest c.remove.result found.0 found.1 found.2
    (rw (← links) c.remove.ensures.value) (rw (← links) c.remove.ensures.items)
