use Rattle.std.proofs.Common.{◌≡◌, ap, sym}
use Rattle.mx_embedded.specs.Multis.{gate_in}
use Rattle.mx_embedded.proofs.multi.SocketMulti.perform.Goals as goal

pub returns-clause-performs : goal.returns-clause-performs
returns-clause-performs c =
    let was : gate_in c.args.self.now.gate ≡ c.in-Some.gate = ap gate_in (sym c.in-Some.ensures.value) in
    rw (c.into_gate.ensures, was) (rw (c.over-gate.ensures.within, c.look_now.ensures) at c.perform-running.ensures.performs)
