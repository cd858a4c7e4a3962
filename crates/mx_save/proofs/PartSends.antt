-- A sink may go to another thread where its part may.
use denote.RattleType.{RattleType}
use denote.Param.Send.{IsSend, struct_send, sendable}
use denote.Struct.Declared.{shape}
use Rattle.std.proofs.Crossing.{crosses}
use Rattle.mx_folder.specs.declared.folders.PartFile as part
use Rattle.mx_save.specs.contracts.part_sink.PartSink as PartSink
use Rattle.mx_save.specs.contracts.part_sink.PartSink.TheInside as Inside

inside_field : (P : RattleType) (g : part.Ghosts P.Denot) → IsSend P → IsSend (Inside.the_field P g).row
inside_field P g s = struct_send (shape (Inside.the_type P g)) (s, (search (sendable, crosses) depth 40, (search (sendable, crosses) depth 40, (search (sendable, crosses) depth 40, tt))))

pub part_sink_send : (P : RattleType) (g : part.Ghosts P.Denot) → IsSend P → IsSend (PartSink.the_row P g)
part_sink_send P g s =
    let a = inside_field P g s in
    search (sendable) depth 40 fits 20000
