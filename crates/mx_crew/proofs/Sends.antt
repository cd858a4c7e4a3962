-- Threads may share what the gates of a run have in common, and what came of a worker may go to another thread, where its gate may.
use denote.RattleType.{RattleType}
use denote.Param.Send.{IsSend, IsSync, struct_send, sendable}
use denote.Struct.Declared.{shape}
use Rattle.std.proofs.Crossing.{crosses}
use Rattle.mx_link.specs.declared.links.Link as link
use Rattle.mx_sink.specs.declared.delivery.Delivery as delivery
use Rattle.mx_crew.specs.contracts.worked.Worked as Worked
use Rattle.mx_crew.specs.contracts.worked.Worked.TheInside as WorkedInside
use Rattle.mx_crew.specs.contracts.gate.Common as Common
use Rattle.mx_crew.specs.contracts.shortage.Shortages as Shortages
use Rattle.mx_crew.specs.contracts.starts.Starts as Starts

starts_sync : IsSync Starts.the_row
starts_sync = search (sendable, crosses) depth 40 fits 20000

shortages_sync : IsSync Shortages.the_row
shortages_sync = search (sendable, crosses) depth 40 fits 20000

pub common_sync : IsSync Common.the_row
common_sync =
    let a = starts_sync in
    let b = shortages_sync in
    search (sendable, crosses) depth 40 fits 20000

worked_inside : (L G D : RattleType) (g : link.Ghosts L.Denot) (d : delivery.Ghosts D.Denot) → IsSend G → IsSend (WorkedInside.the_field L G D g d).row
worked_inside L G D g d s = struct_send (shape (WorkedInside.the_type L G D g d)) (search (sendable, crosses) depth 40, (s, (search (sendable, crosses) depth 40, (search (sendable, crosses) depth 40, (search (sendable, crosses) depth 40, tt)))))

pub worked_send : (L G D : RattleType) (g : link.Ghosts L.Denot) (d : delivery.Ghosts D.Denot) → IsSend G → IsSend (Worked.the_row L G D g d)
worked_send L G D g d s =
    let a = worked_inside L G D g d s in
    search (sendable) depth 40 fits 20000
