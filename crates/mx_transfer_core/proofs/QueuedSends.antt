-- The work of a worker's multi handle may go to another thread where the links and the deliveries may.
use denote.RattleType.{RattleType}
use denote.Param.Send.{IsSend, struct_send, sendable}
use denote.Struct.Declared.{shape}
use Rattle.mx_link.specs.declared.links.Link as link
use Rattle.mx_sink.specs.declared.delivery.Delivery as delivery
use Rattle.std.proofs.Crossing.{crosses}
use Rattle.mx_transfer_core.proofs.Sends.{core_send}
use Rattle.mx_transfer_core.specs.contracts.queued.Queued as Queued
use Rattle.mx_transfer_core.specs.contracts.queued.Queued.TheInside as QueuedInside

queued_inside : (L D : RattleType) (g : link.Ghosts L.Denot) (d : delivery.Ghosts D.Denot) → IsSend L → IsSend D → IsSend (QueuedInside.the_field L D g d).row
queued_inside L D g d s t = struct_send (shape (QueuedInside.the_type L D g d)) (search (core_send, sendable, crosses) depth 40 fits 20000, tt)

pub queued_send : (L D : RattleType) (g : link.Ghosts L.Denot) (d : delivery.Ghosts D.Denot) → IsSend L → IsSend D → IsSend (Queued.the_row L D g d)
queued_send L D g d s t =
    let a = queued_inside L D g d s t in
    search (sendable) depth 40 fits 20000
