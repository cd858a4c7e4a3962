use denote.Param.Send.{sendable}
use Rattle.std.proofs.Crossing.{crosses}
use Rattle.mx_sink.proofs.Sends.{outlet_send}
use Rattle.mx_run_get_body.proofs.Sends.{writer_sink_send}
use Rattle.mx_run_get_body.proofs.body.fetch_body.Goals as goal

pub fetch_over_sockets-requires-send-D : goal.fetch_over_sockets-requires-send-D
fetch_over_sockets-requires-send-D g c κs within =
    let w = c.type_bounds.send-W in
    search (outlet_send, writer_sink_send, sendable, crosses) depth 40 fits 20000
