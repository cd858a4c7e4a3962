use Rattle.std.proofs.Common.{refl, ap}
use Rattle.mx_line.specs.Lines.{LineState}
use Rattle.mx_line.proofs.Steps.{Turn-unsent, Turn-unsent_retry}
use Rattle.mx_line.proofs.lines.Line.write_step.Goals as goal

pub returns-else-may_retry-clause-turn : goal.returns-else-may_retry-clause-turn
returns-else-may_retry-clause-turn g c =
    let reused = ap (λ (l : LineState _). l.is_reused) c.in-Fault.ensures.grows in
    Turn-unsent _ _ _ c.requires.going c.in-Fault.ensures.stands (λ h. let x = c.if-may_retry.ensures.1 (rw (c.method.ensures, c.is_reused.ensures, reused, ← c.requires.about) h) in cc) c.in-Fault.ensures.grows

pub returns-then-may_retry-clause-turn : goal.returns-then-may_retry-clause-turn
returns-then-may_retry-clause-turn g c =
    let reused = ap (λ (l : LineState _). l.is_reused) c.in-Fault.ensures.grows in
    Turn-unsent_retry _ _ _ c.requires.going c.in-Fault.ensures.stands (rw (c.method.ensures, c.is_reused.ensures, reused, ← c.requires.about) at (c.if-may_retry.ensures.0 refl)) c.in-Fault.ensures.grows
