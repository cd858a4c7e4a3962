use Rattle.std.proofs.Common.{◌∙◌}
use Rattle.mx_chain.proofs.HopLemmas.{ok_stays, ends_listed, ok_handed}
use Rattle.mx_chain.proofs.ends.ChainEnd.code.Goals as goal

pub returns-clause-whole : goal.returns-clause-whole
returns-clause-whole c = rw (← c.self.view_is) (λ ok. c.code-ended.ensures.whole (c.code-ended.ensures.code ∙ ok_stays _ _ _ _ c.self.invariant.ends ok))

pub returns-clause-body : goal.returns-clause-body
returns-clause-body c = rw (← c.self.view_is) (λ ok. c.code-ended.ensures.body (c.code-ended.ensures.code ∙ ok_stays _ _ _ _ c.self.invariant.ends ok))

pub returns-clause-handed : goal.returns-clause-handed
returns-clause-handed c = rw (← c.self.view_is) (λ ok. ok_handed _ _ _ _ c.self.invariant.ends ok)

pub returns-clause-listed : goal.returns-clause-listed
returns-clause-listed c = rw (← c.self.view_is) (ends_listed _ _ _ _ c.self.invariant.ends (rw c.code-ended.ensures.code at c.code-ended.ensures.listed))
