use Rattle.std.proofs.Common.{◌∙◌, sym}
use Rattle.mx_chain.proofs.HopLemmas.{ok_stays, ok_handed, ends_listed, settled_ok, settled_listed}
use Rattle.mx_chain.proofs.outcomes.Outcome.code.Goals as goal

pub returns-clause-whole : goal.returns-clause-whole
returns-clause-whole g c = rw (← c.self.view_is) (λ ok. c.code-ended.ensures.whole (c.code-ended.ensures.code ∙ ok_stays _ _ _ _ c.self.invariant.end.ends (settled_ok _ _ c.fault.ensures.code (sym c.settle.ensures ∙ ok)).0))

pub returns-clause-body : goal.returns-clause-body
returns-clause-body g c = rw (← c.self.view_is) (λ ok. c.code-ended.ensures.body (c.code-ended.ensures.code ∙ ok_stays _ _ _ _ c.self.invariant.end.ends (settled_ok _ _ c.fault.ensures.code (sym c.settle.ensures ∙ ok)).0))

pub returns-clause-content : goal.returns-clause-content
returns-clause-content g c = rw (← c.self.view_is) (λ held ok. c.code-ended.ensures.content (c.code-ended.ensures.code ∙ ok_stays _ _ _ _ c.self.invariant.end.ends (settled_ok _ _ c.fault.ensures.code (sym c.settle.ensures ∙ ok)).0) held)

pub returns-clause-handed : goal.returns-clause-handed
returns-clause-handed g c = rw (← c.self.view_is) (λ ok. ok_handed _ _ _ _ c.self.invariant.end.ends (settled_ok _ _ c.fault.ensures.code (sym c.settle.ensures ∙ ok)).0)

pub returns-clause-listed : goal.returns-clause-listed
returns-clause-listed g c =
    rw (← c.self.view_is)
    (rw (c.settle.ensures) (settled_listed _ _ _ _ c.self.invariant.limit c.fault.ensures.held c.fault.ensures.code (ends_listed _ _ _ _ c.self.invariant.end.ends (rw c.code-ended.ensures.code at c.code-ended.ensures.listed))))
