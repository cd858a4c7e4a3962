use denote.Param.Send.{sendable}
use Rattle.std.proofs.Crossing.{crosses}
use Rattle.mx_named_gate.proofs.PacedSends.{paced_send}
use Rattle.mx_fetch.proofs.sockets.fetch_at_paced.Goals as goal

pub fetch_at_gates-requires-send-G : goal.fetch_at_gates-requires-send-G
fetch_at_gates-requires-send-G g c κs within = search (paced_send, sendable, crosses) depth 40 fits 20000
