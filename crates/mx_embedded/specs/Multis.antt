-- A multi handle over sockets.
use Rattle.std.specs.Prelude.{[], false, Option, Some, None}
use Rattle.mx_gate.specs.Gates.{SocketGateState}

-- the gate of a multi handle: between two calls it is there
abbrev pub gate_in : Option SocketGateState → SocketGateState
gate_in (Some gate) = gate
gate_in None = record { latest = 0; next_token = 1; is_stopped = false; found = []; dialled = []; said = [] }
