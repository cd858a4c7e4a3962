-- A reader may go to another thread. `search` finds it for what a reader is made of, so each step is here.
use denote.Param.Send.{IsSend, struct_send, enum_send, sendable}
use denote.Struct.Declared.{shape}
use denote.Enum.Declared.{shape as enum_shape}
use Rattle.std.proofs.Crossing.{crosses}
use Rattle.mx_body.proofs.decoder.Decoder.TheSendSync.{the_send as decoder_send}
use Rattle.mx_flow.proofs.Sends.{stream_send}
use Rattle.mx_reader.specs.contracts.flowing.FlowingReader as Flowing
use Rattle.mx_reader.specs.contracts.flowing.FlowingReader.TheInside as FlowingInside
use Rattle.mx_reader.specs.contracts.reader.Mode as Mode
use Rattle.mx_reader.specs.contracts.reader.Reader as Reader
use Rattle.mx_reader.specs.contracts.reader.Reader.TheInside as Inside

flowing_inside : IsSend FlowingInside.the_field.row
flowing_inside = struct_send (shape FlowingInside.the_type) (search (sendable, crosses) depth 40, (stream_send, (search (sendable, crosses) depth 40, (search (sendable, crosses) depth 40, (search (sendable, crosses) depth 40, (search (sendable, crosses) depth 40, (search (sendable, crosses) depth 40, (search (sendable, crosses) depth 40, tt))))))))

flowing_send : IsSend Flowing.the_row
flowing_send =
    let a = flowing_inside in
    search (sendable) depth 40 fits 20000

mode_send : IsSend Mode.the_field.row
mode_send = enum_send (enum_shape Mode.the_type) ((decoder_send, tt), ((flowing_send, tt), tt))

inside : IsSend Inside.the_field.row
inside = struct_send (shape Inside.the_type) (mode_send, tt)

pub reader_send : IsSend Reader.the_row
reader_send =
    let a = inside in
    search (sendable) depth 40 fits 20000
