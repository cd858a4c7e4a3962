-- A part of a folder of the system may go to another thread where its file may.
use denote.RattleType.{RattleType}
use denote.Param.Send.{IsSend, struct_send, sendable}
use denote.Struct.Declared.{shape}
use Rattle.std.proofs.Crossing.{crosses}
use Rattle.mx_folder.specs.contracts.system.SystemPart as SystemPart
use Rattle.mx_folder.specs.contracts.system.SystemPart.TheInside as Inside

inside_field : (F : RattleType) → IsSend F → IsSend (Inside.the_field F).row
inside_field F f = struct_send (shape (Inside.the_type F)) (search (sendable, crosses) depth 40, (search (sendable, crosses) depth 40, (search (sendable, crosses) depth 40, (search (sendable, crosses) depth 40, (search (sendable, crosses) depth 40, (search (sendable, crosses) depth 40, (search (sendable, crosses) depth 40, tt)))))))

pub system_part_send : (F : RattleType) → IsSend F → IsSend (SystemPart.the_row F)
system_part_send F f =
    let a = inside_field F f in
    search (sendable) depth 40 fits 20000
