-- An exchange may go to another thread where its link may, and a hop always. `search` finds it for what these are made of, so each step is
-- here.
use denote.RattleType.{RattleType}
use denote.Param.Send.{IsSend, struct_send, enum_send, sendable}
use denote.Struct.Declared.{shape}
use denote.Enum.Declared.{shape as enum_shape}
use Rattle.std.proofs.Crossing.{crosses}
use Rattle.std.specs.contracts.option.Option as Option
use Rattle.mx_request.proofs.request.Request.TheSendSync.{the_send as request_send}
use Rattle.mx_link.specs.declared.links.Link as link
use Rattle.mx_reader.proofs.Sends.{reader_send}
use Rattle.mx_line.specs.contracts.lines.Line as Line
use Rattle.mx_line.proofs.Sends.{line_send}
use Rattle.mx_exchange.specs.contracts.exchanges.stages.Live as Live
use Rattle.mx_exchange.specs.contracts.exchanges.stages.Ended as Ended
use Rattle.mx_exchange.specs.contracts.exchanges.stages.Stage as Stage
use Rattle.mx_exchange.specs.contracts.hops.Hop as Hop
use Rattle.mx_exchange.specs.contracts.hops.Hop.TheInside as HopInside
use Rattle.mx_exchange.specs.contracts.exchanges.Exchange as Exchange
use Rattle.mx_exchange.specs.contracts.exchanges.Exchange.TheInside as Inside

hop_inside : IsSend HopInside.the_field.row
hop_inside = struct_send (shape HopInside.the_type) (request_send, (search (sendable, crosses) depth 40, (search (sendable, crosses) depth 40, (search (sendable, crosses) depth 40, (search (sendable, crosses) depth 40, (search (sendable, crosses) depth 40, (search (sendable, crosses) depth 40, (search (sendable, crosses) depth 40, (search (sendable, crosses) depth 40, (search (sendable, crosses) depth 40, tt))))))))))

pub hop_send : IsSend Hop.the_row
hop_send =
    let a = hop_inside in
    search (sendable) depth 40 fits 20000

opt_line : (L : RattleType) (g : link.Ghosts L.Denot) → IsSend L → IsSend (Option.the_field (Line.the_row L g)).row
opt_line L g s = let a = line_send L g s in search (sendable) depth 40

live_field : (L : RattleType) (g : link.Ghosts L.Denot) → IsSend L → IsSend (Live.the_field L g).row
live_field L g s = struct_send (shape (Live.the_type L g)) (request_send, (reader_send, (opt_line L g s, tt)))

ended_field : (L : RattleType) (g : link.Ghosts L.Denot) → IsSend L → IsSend (Ended.the_field L g).row
ended_field L g s = struct_send (shape (Ended.the_type L g)) (search (sendable, crosses) depth 40, (search (sendable, crosses) depth 40, (opt_line L g s, (search (sendable, crosses) depth 40, tt))))

stage_field : (L : RattleType) (g : link.Ghosts L.Denot) → IsSend L → IsSend (Stage.the_field L g).row
stage_field L g s = enum_send (enum_shape (Stage.the_type L g)) ((live_field L g s, tt), ((ended_field L g s, tt), tt))

inside_field : (L : RattleType) (g : link.Ghosts L.Denot) → IsSend L → IsSend (Inside.the_field L g).row
inside_field L g s = struct_send (shape (Inside.the_type L g)) (search (sendable, crosses) depth 40, (search (sendable, crosses) depth 40, (search (sendable, crosses) depth 40, (stage_field L g s, (search (sendable, crosses) depth 40, (search (sendable, crosses) depth 40, (search (sendable, crosses) depth 40, (search (sendable, crosses) depth 40, (search (sendable, crosses) depth 40, (search (sendable, crosses) depth 40, (search (sendable, crosses) depth 40, (search (sendable, crosses) depth 40, tt))))))))))))

pub exchange_send : (L : RattleType) (g : link.Ghosts L.Denot) → IsSend L → IsSend (Exchange.the_row L g)
exchange_send L g s =
    let a = inside_field L g s in
    search (sendable) depth 40 fits 20000
