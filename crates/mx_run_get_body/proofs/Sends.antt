-- A sink that writes may go to another thread where its writer may.
use denote.RattleType.{RattleType}
use denote.Param.Send.{IsSend, struct_send, sendable}
use denote.Struct.Declared.{shape}
use Rattle.std.proofs.Crossing.{crosses}
use Rattle.std.specs.declared.io.traits.Write as write
use Rattle.mx_run_get_body.specs.contracts.writer_sink.WriterSink as WriterSink
use Rattle.mx_run_get_body.specs.contracts.writer_sink.WriterSink.TheInside as Inside

inside_field : (W : RattleType) (g : write.Ghosts W.Denot) → IsSend W → IsSend (Inside.the_field W g).row
inside_field W g s = struct_send (shape (Inside.the_type W g)) (search (sendable, crosses) depth 40, (search (sendable, crosses) depth 40, (search (sendable, crosses) depth 40, tt)))

pub writer_sink_send : (W : RattleType) (g : write.Ghosts W.Denot) → IsSend W → IsSend (WriterSink.the_row W g)
writer_sink_send W g s =
    let a = inside_field W g s in
    search (sendable) depth 40 fits 20000
