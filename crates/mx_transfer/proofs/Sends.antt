-- A transfer may go to another thread where its link and its delivery may.
use denote.RattleType.{RattleType}
use denote.Param.Send.{IsSend, struct_send, sendable}
use denote.Struct.Declared.{shape}
use Rattle.std.proofs.Crossing.{crosses}
use Rattle.std.specs.contracts.option.Option as Option
use Rattle.futures.proofs.task.Waker.TheSendSync.{the_send as waker_send}
use Rattle.futures.specs.contracts.task.Waker as Waker
use Rattle.futures.specs.contracts.task.Source as Source
use Rattle.mx_link.specs.declared.links.Link as link
use Rattle.mx_sink.specs.declared.delivery.Delivery as delivery
use Rattle.mx_transfer_core.proofs.Sends.{core_send}
use Rattle.mx_transfer.specs.contracts.transfers.Transfer as Transfer
use Rattle.mx_transfer.specs.contracts.transfers.Transfer.TheInside as Inside

opt_waker : IsSend (Option.the_field Waker.the_row).row
opt_waker = search (waker_send, sendable, crosses) depth 40

source_field : IsSend Source.the_field.row
source_field = search (sendable, crosses) depth 40

inside_field : (L D : RattleType) (g : link.Ghosts L.Denot) (d : delivery.Ghosts D.Denot) → IsSend L → IsSend D → IsSend (Inside.the_field L D g d).row
inside_field L D g d s t = struct_send (shape (Inside.the_type L D g d)) (core_send L D g d s t, (source_field, (source_field, (opt_waker, tt))))

pub transfer_send : (L D : RattleType) (g : link.Ghosts L.Denot) (d : delivery.Ghosts D.Denot) → IsSend L → IsSend D → IsSend (Transfer.the_row L D g d)
transfer_send L D g d s t =
    let a = inside_field L D g d s t in
    search (sendable) depth 40 fits 20000
