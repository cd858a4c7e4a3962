use denote.Param.Send.{sendable}
use Rattle.std.proofs.Crossing.{crosses}
use Rattle.mx_crew.proofs.Sends.{common_sync}
use Rattle.mx_crew.proofs.beside.start_one.Goals as goal

pub spawn_with-started-requires-send-F : goal.spawn_with-started-requires-send-F
spawn_with-started-requires-send-F g c κs within = search (common_sync, sendable, crosses) depth 40 fits 20000
