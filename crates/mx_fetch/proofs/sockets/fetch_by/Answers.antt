use denote.Param.Send.{sendable}
use Rattle.std.proofs.Crossing.{crosses}
use Rattle.mx_named_gate.proofs.Sends.{named_send}
use Rattle.mx_fetch.proofs.Sends.{link_send}
use Rattle.mx_fetch.proofs.sockets.fetch_by.Goals as goal

pub fetch_at_paced-requires-send-N : goal.fetch_at_paced-requires-send-N
fetch_at_paced-requires-send-N g c κs within = search (named_send, sendable, crosses) depth 40 fits 20000

pub fetch_at_paced-requires-send-N-Link : goal.fetch_at_paced-requires-send-N-Link
fetch_at_paced-requires-send-N-Link g c κs within = search (link_send, sendable, crosses) depth 40 fits 20000
