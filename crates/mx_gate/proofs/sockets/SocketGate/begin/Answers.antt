use Rattle.std.proofs.Common.{rules}
use Rattle.mx_gate.proofs.FirstLemmas.{dials, dials_or_none}
use Rattle.mx_gate.proofs.sockets.SocketGate.begin.Goals as goal

pub returns-in-Ok-clause-dialled : goal.returns-in-Ok-clause-dialled
returns-in-Ok-clause-dialled g c =
    dials c.args.endpoint.now c.args.self.now c.begin_at.new.self c.in_ok-addresses.addresses.items (search rules) (search rules)

pub returns-in-Err-clause-undialled : goal.returns-in-Err-clause-undialled
returns-in-Err-clause-undialled g c =
    dials_or_none c.args.endpoint.now c.args.self.now c.begin_at.new.self c.in_ok-addresses.addresses.items (search rules) (search rules)
