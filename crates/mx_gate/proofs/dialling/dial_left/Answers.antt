use Rattle.std.proofs.Common.{refl, subst}
use Rattle.mx_gate.specs.Dialling.{DialsNext}
use Rattle.mx_gate.proofs.DialLemmas.{dials_none, dials_more}
use Rattle.mx_gate.proofs.dialling.dial_left.Goals as goal

pub loop-address-init : goal.loop-address-init
loop-address-init g c = (dials_none _ _, refl)

pub returns-in-Ok-clause-next : goal.returns-in-Ok-clause-next
returns-in-Ok-clause-next g c =
    dials_more _ _ _ _ _ _ c.in-Some.address c.loop-address.invariant.0 c.in-Some.ensures.items c.in-Ok.ensures.dialled

pub loop-address-preserved : goal.loop-address-preserved
loop-address-preserved g c =
    (dials_more _ _ _ _ _ _ c.in-Some.address c.loop-address.invariant.0 c.in-Some.ensures.items c.in-Err.ensures.dialled, c.in-Err.ensures.code)

pub returns-clause-next : goal.returns-clause-next
returns-clause-next g c =
    subst (λ l. DialsNext (g.D.Dial.dialled c.args.dial.now) c.args.left.now.items (g.D.Dial.dialled c.loop-address.dial) l)
    c.in_default.ensures.items c.loop-address.invariant.0
