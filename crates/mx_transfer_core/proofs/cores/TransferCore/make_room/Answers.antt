use Rattle.std.proofs.Common.{refl}
use Rattle.mx_transfer_core.specs.Deliveries.{takes, has_none, has_failed}
use Rattle.mx_transfer_core.proofs.HandedOn.{failure_given, flowing_is, limit_there}
use Rattle.mx_transfer_core.proofs.cores.TransferCore.make_room.Goals as goal

pub returns-then-has_room-clause-room : goal.returns-then-has_room-clause-room
returns-then-has_room-clause-room g c = rw (← c.self.view_is) (takes refl)

pub returns-in-Some-fault-clause-room : goal.returns-in-Some-fault-clause-room
returns-in-Some-fault-clause-room g c =
    let is = rw c.in-Some.is at (c.self.invariant (rw (← c.self.view_is) at c.requires)) in
    let flowing = flowing_is _ _ c.make_room-has_room.ensures.held c.if-has_room.false in
    rw (← c.self.view_is) (has_failed c.in-Some-fault.code (limit_there _ _ is.0 flowing) (failure_given _ _ _ is.0 flowing c.in-Some-fault.ensures.code) c.fail.ensures)

pub returns-in_default-fault-clause-room : goal.returns-in_default-fault-clause-room
returns-in_default-fault-clause-room g c =
    let is = rw c.in-Some.is at (c.self.invariant (rw (← c.self.view_is) at c.requires)) in
    let flowing = flowing_is _ _ c.make_room-has_room.ensures.held c.if-has_room.false in
    rw (← c.self.view_is) (has_none (limit_there _ _ is.0 flowing) refl)
