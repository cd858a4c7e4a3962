-- A paced gate may go to another thread, where the gate within may.
use denote.RattleType.{RattleType}
use denote.Param.Send.{IsSend, struct_send, sendable}
use denote.Struct.Declared.{shape}
use Rattle.std.proofs.Crossing.{crosses}
use Rattle.mx_named_gate.specs.contracts.pace.Pace as Pace
use Rattle.mx_named_gate.specs.contracts.paced.PacedGate as PacedGate
use Rattle.mx_named_gate.specs.contracts.paced.PacedGate.TheInside as Inside

pace_send : IsSend Pace.the_row
pace_send = search (sendable, crosses) depth 40 fits 20000

inside_field : (G : RattleType) → IsSend G → IsSend (Inside.the_field G).row
inside_field G g = struct_send (shape (Inside.the_type G)) (g, (pace_send, (search (sendable, crosses) depth 40, (search (sendable, crosses) depth 40, tt))))

pub paced_send : (G : RattleType) → IsSend G → IsSend (PacedGate.the_row G)
paced_send G g =
    let a = inside_field G g in
    search (sendable) depth 40 fits 20000
