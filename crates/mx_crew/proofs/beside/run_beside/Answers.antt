use denote.Param.Send.{sendable}
use Rattle.std.proofs.Crossing.{crosses}
use Rattle.mx_chain.proofs.Sends.{outcome_send}
use Rattle.mx_multi.proofs.Sends.{at_work_send, seated_send}
use Rattle.mx_transfer_core.proofs.QueuedSends.{queued_send}
use Rattle.mx_crew.proofs.Sends.{worked_send}
use Rattle.mx_crew.proofs.beside.run_beside.Goals as goal

pub run_all-requires-send-J : goal.run_all-requires-send-J
run_all-requires-send-J g c κs within = search (seated_send, at_work_send, queued_send, outcome_send, sendable, crosses) depth 40 fits 20000

pub run_all-requires-send-D : goal.run_all-requires-send-D
run_all-requires-send-D g c κs within = search (worked_send, sendable, crosses) depth 40 fits 20000
