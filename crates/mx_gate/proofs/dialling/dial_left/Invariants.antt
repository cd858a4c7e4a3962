use Rattle.std.proofs.Common.{◌≡◌, true}
use Rattle.std.specs.Prelude.{length}
use Rattle.mx_types.specs.Code.{is_link_code}
use Rattle.mx_gate.specs.Dialling.{DialsNext}
use Rattle.mx_gate.proofs.dialling.dial_left.Given as goal

abbrev pub invariant-loop-address : goal.invariant-loop-address
invariant-loop-address g l =
    DialsNext (g.D.Dial.dialled l.initial.dial) l.initial.left.items (g.D.Dial.dialled l.dial) l.left.items × (is_link_code l.refusal ≡ true)

abbrev pub decreases-loop-address : goal.decreases-loop-address
decreases-loop-address g l = length l.left.items
