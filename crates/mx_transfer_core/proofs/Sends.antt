-- A transfer may go to another thread where its link and its delivery may.
use denote.RattleType.{RattleType}
use denote.Param.Send.{IsSend, struct_send, sendable}
use denote.Struct.Declared.{shape}
use Rattle.std.proofs.Crossing.{crosses}
use Rattle.mx_link.specs.declared.links.Link as link
use Rattle.mx_sink.specs.declared.delivery.Delivery as delivery
use Rattle.mx_chain.proofs.Sends.{chain_send}
use Rattle.mx_transfer_core.specs.contracts.cores.TransferCore as TransferCore
use Rattle.mx_transfer_core.specs.contracts.cores.TransferCore.TheInside as Inside

inside_field : (L D : RattleType) (g : link.Ghosts L.Denot) (d : delivery.Ghosts D.Denot) → IsSend L → IsSend D → IsSend (Inside.the_field L D g d).row
inside_field L D g d s t = struct_send (shape (Inside.the_type L D g d)) (search (sendable, crosses) depth 40, (chain_send L g s, (search (sendable, crosses) depth 40, (search (sendable, crosses) depth 40, tt))))

pub core_send : (L D : RattleType) (g : link.Ghosts L.Denot) (d : delivery.Ghosts D.Denot) → IsSend L → IsSend D → IsSend (TransferCore.the_row L D g d)
core_send L D g d s t =
    let a = inside_field L D g d s t in
    search (sendable) depth 40 fits 20000
