-- A stream may go to another thread. `search` finds it for what a stream is made of, so each step is here.
use denote.Param.Send.{IsSend, struct_send, enum_send, sendable}
use denote.Struct.Declared.{shape}
use denote.Enum.Declared.{shape as enum_shape}
use Rattle.std.proofs.Crossing.{crosses}
use Rattle.mx_body.proofs.heads.Heads.TheSendSync.{the_send as heads_send}
use Rattle.mx_flow.proofs.stage.KeptHeads.TheSendSync.{the_field_send as kept_send}
use Rattle.mx_flow.specs.contracts.flow.Flow as Flow
use Rattle.mx_flow.specs.contracts.flow.Flow.TheInside as FlowInside
use Rattle.mx_flow.specs.contracts.stage.Stage as Stage
use Rattle.mx_flow.specs.contracts.stream.Stream as Stream
use Rattle.mx_flow.specs.contracts.stream.Stream.TheInside as StreamInside

flow_inside : IsSend FlowInside.the_field.row
flow_inside = struct_send (shape FlowInside.the_type) (search (sendable, crosses) depth 40, (search (sendable, crosses) depth 40, (search (sendable, crosses) depth 40, (search (sendable, crosses) depth 40, (search (sendable, crosses) depth 40, (search (sendable, crosses) depth 40, (search (sendable, crosses) depth 40, (search (sendable, crosses) depth 40, tt))))))))

flow_send : IsSend Flow.the_row
flow_send =
    let a = flow_inside in
    search (sendable) depth 40 fits 20000

stage_send : IsSend Stage.the_field.row
stage_send = enum_send (enum_shape Stage.the_type) ((heads_send, tt), ((heads_send, (search (sendable, crosses) depth 40, tt)), ((kept_send, (search (sendable, crosses) depth 40, tt)), ((kept_send, (flow_send, tt)), tt))))

stream_inside : IsSend StreamInside.the_field.row
stream_inside = struct_send (shape StreamInside.the_type) (search (sendable, crosses) depth 40, (search (sendable, crosses) depth 40, (search (sendable, crosses) depth 40, (stage_send, tt))))

pub stream_send : IsSend Stream.the_row
stream_send =
    let a = stream_inside in
    search (sendable) depth 40 fits 20000
