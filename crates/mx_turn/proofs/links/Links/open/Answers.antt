use Rattle.std.proofs.Common.{◌≡◌}
use Rattle.mx_turn.specs.Turn.{cleared}
use Rattle.mx_turn.proofs.Supplying.{by_put_off, by_second}
use Rattle.mx_turn.proofs.links.Links.open.Goals as goal

pub returns-then-not-can_open-clause-opens : goal.returns-then-not-can_open-clause-opens
returns-then-not-can_open-clause-opens g c =
    let inside : c.self.inside.idle ≡ c.args.self.now = c.self.view_is in
    let dropped : c.clear.new.self ≡ cleared c.args.self.now = rw (← inside) c.clear.ensures in
    by_put_off _ _ _ _ _ _ _ c.in-Err.code _ _ c.in-Err.ensures.code dropped c.in-Err.ensures.noted c.if-not-lacks_files.false c.lacks_files.ensures.noted c.if-not-can_open.true c.can_open.ensures.noted

pub returns-else-not-can_open-clause-opens : goal.returns-else-not-can_open-clause-opens
returns-else-not-can_open-clause-opens g c =
    let inside : c.self.inside.idle ≡ c.args.self.now = c.self.view_is in
    let dropped : c.clear.new.self ≡ cleared c.args.self.now = rw (← inside) c.clear.ensures in
    by_second _ _ _ _ _ _ _ c.in-Err.code _ _ _ c.open-in-Err.result _ c.in-Err.ensures.code dropped c.in-Err.ensures.noted c.if-not-lacks_files.false c.lacks_files.ensures.noted c.if-not-can_open.false c.can_open.ensures.noted c.open-in-Err.ensures.noted
