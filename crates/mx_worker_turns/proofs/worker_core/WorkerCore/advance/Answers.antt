use Rattle.mx_worker_turns.proofs.Looking.{advanced}
use Rattle.mx_worker_turns.proofs.Waiting.{awaits, serves_on}
use Rattle.mx_worker_turns.proofs.worker_core.WorkerCore.advance.Goals as goal

pub rest-requires-clause-awaits : goal.rest-requires-clause-awaits
rest-requires-clause-awaits g c =
    let so = c.awaits_link.ensures c.if-awaits_link.true in
    let waited = rw (c.into_parts-right.ensures.parts, ← c.deref_mut-ready.ensures.value) at (c.has_waited-has_waited.ensures so.0) in
    awaits _ _ c.args.now c.args.may_go c.make_room-has_room.result c.goes_on-goes.result c.make_ready-delayed.result _ c.make_room-has_room.new.self _ _ _ waited c.make_room-has_room.ensures.room c.goes_on-goes.ensures c.make_ready-delayed.ensures.ready so.1 so.2 so.3

pub returns-then-awaits_link-clause-advances : goal.returns-then-awaits_link-clause-advances
returns-then-awaits_link-clause-advances g c =
    let said = g.G.Gate.said c.make_ready-delayed.new.gate in
    let so = c.awaits_link.ensures c.if-awaits_link.true in
    rw (c.into_parts-right.ensures.parts, ← c.deref_mut-ready.ensures.value)
    (advanced _ _ c.args.now _ c.args.may_go c.make_room-has_room.result c.goes_on-goes.result c.make_ready-delayed.result _ _ _ c.make_room-has_room.new.self _ c.make_room-has_room.ensures.room c.goes_on-goes.ensures c.make_ready-delayed.ensures.ready (serves_on _ _ c.goes_on-goes.result _ _ _ so.1 (c.rest.ensures.serves said)))

pub returns-clause-advances : goal.returns-clause-advances
returns-clause-advances g c =
    let said = g.G.Gate.said c.make_ready-delayed.new.gate in
    rw (c.into_parts-right.ensures.parts, ← c.deref_mut-ready.ensures.value)
    (advanced _ _ c.args.now _ c.args.may_go c.make_room-has_room.result c.goes_on-goes.result c.make_ready-delayed.result _ _ _ c.make_room-has_room.new.self _ c.make_room-has_room.ensures.room c.goes_on-goes.ensures c.make_ready-delayed.ensures.ready (c.serve.ensures.serves said))
