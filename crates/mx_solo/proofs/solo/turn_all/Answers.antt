use Rattle.std.proofs.Common.{refl, rules}
use Rattle.mx_turn.specs.Turn.{begins, turns}
use Rattle.mx_solo.proofs.solo.turn_all.Goals as goal

pub loop-init : goal.loop-init
loop-init g c = record { runs = begins; same = refl }

pub loop-preserved : goal.loop-preserved
loop-preserved g c = record { runs = turns c.loop.invariant.runs c.turn-in-loop.ensures.turn; same = search rules }

pub returns-then-not-can_go_on-clause-turns : goal.returns-then-not-can_go_on-clause-turns
returns-then-not-can_go_on-clause-turns g c = (_, c.turn.ensures.turn, c.loop.invariant.runs)

pub returns-clause-turns : goal.returns-clause-turns
returns-clause-turns g c = (_, c.turn.ensures.turn, c.loop.invariant.runs)
