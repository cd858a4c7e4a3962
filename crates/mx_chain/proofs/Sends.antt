-- A transfer may go to another thread where its link may, and an outcome where its delivery may.
use denote.RattleType.{RattleType}
use denote.Param.Send.{IsSend, struct_send, enum_send, sendable}
use denote.Struct.Declared.{shape}
use denote.Enum.Declared.{shape as enum_shape}
use Rattle.std.proofs.Crossing.{crosses}
use Rattle.mx_request.proofs.request.Request.TheSendSync.{the_send as request_send}
use Rattle.mx_request.proofs.endpoint.Endpoint.TheSendSync.{the_send as endpoint_send}
use Rattle.mx_link.specs.declared.links.Link as link
use Rattle.mx_sink.specs.declared.delivery.Delivery as delivery
use Rattle.mx_exchange.proofs.Sends.{hop_send, exchange_send}
use Rattle.mx_chain.specs.contracts.followed.HopHeads as HopHeads
use Rattle.mx_chain.specs.contracts.followed.HopHeads.TheInside as HeadsInside
use Rattle.mx_chain.specs.contracts.followed.Kept as Kept
use Rattle.mx_chain.specs.contracts.followed.Hops as Hops
use Rattle.mx_chain.specs.contracts.followed.Hops.TheInside as HopsInside
use Rattle.mx_chain.specs.contracts.outcomes.Outcome as Outcome
use Rattle.mx_chain.specs.contracts.outcomes.Outcome.TheInside as OutcomeInside
use Rattle.mx_chain.specs.contracts.chains.Chain as Chain
use Rattle.mx_chain.specs.contracts.chains.Chain.TheInside as Inside

heads_inside : IsSend HeadsInside.the_field.row
heads_inside = struct_send (shape HeadsInside.the_type) (request_send, (search (sendable, crosses) depth 40, (search (sendable, crosses) depth 40, (search (sendable, crosses) depth 40, tt))))

heads_send : IsSend HopHeads.the_row
heads_send =
    let a = heads_inside in
    search (sendable) depth 40 fits 20000

kept_send : IsSend Kept.the_field.row
kept_send = enum_send (enum_shape Kept.the_type) ((search (hop_send, sendable, crosses) depth 40, tt), ((search (heads_send, sendable, crosses) depth 40, tt), tt))

hops_inside : IsSend HopsInside.the_field.row
hops_inside = struct_send (shape HopsInside.the_type) (kept_send, tt)

hops_send : IsSend Hops.the_row
hops_send =
    let a = hops_inside in
    search (sendable) depth 40 fits 20000

outcome_inside : (D : RattleType) (d : delivery.Ghosts D.Denot) → IsSend D → IsSend (OutcomeInside.the_field D d).row
outcome_inside D d s = struct_send (shape (OutcomeInside.the_type D d)) (hops_send, (hop_send, (search (sendable, crosses) depth 40, (s, (search (sendable, crosses) depth 40, tt)))))

pub outcome_send : (D : RattleType) (d : delivery.Ghosts D.Denot) → IsSend D → IsSend (Outcome.the_row D d)
outcome_send D d s =
    let a = outcome_inside D d s in
    search (sendable) depth 40 fits 20000

inside_field : (L : RattleType) (g : link.Ghosts L.Denot) → IsSend L → IsSend (Inside.the_field L g).row
inside_field L g s = struct_send (shape (Inside.the_type L g)) (search (sendable, crosses) depth 40, (search (sendable, crosses) depth 40, (search (sendable, crosses) depth 40, (hops_send, (exchange_send L g s, (search (sendable, crosses) depth 40, (search (sendable, crosses) depth 40, (search (sendable, crosses) depth 40, (search (sendable, crosses) depth 40, (search (sendable, crosses) depth 40, (search (endpoint_send, sendable, crosses) depth 40, tt)))))))))))

pub chain_send : (L : RattleType) (g : link.Ghosts L.Denot) → IsSend L → IsSend (Chain.the_row L g)
chain_send L g s =
    let a = inside_field L g s in
    search (sendable) depth 40 fits 20000
