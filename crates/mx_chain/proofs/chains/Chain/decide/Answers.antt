use Rattle.std.proofs.Common.{sym, ◌∙◌}
use Rattle.mx_chain.specs.Hops.{stays, too_many}
use Rattle.mx_chain.proofs.HopLemmas.{refused_or}
use Rattle.mx_chain.proofs.chains.Chain.decide.Goals as goal

pub returns-then-not-redirects : goal.returns-then-not-redirects
returns-then-not-redirects g c = rw c.code.ensures.code (stays (sym c.redirects.ensures ∙ c.if-not-redirects.true))

pub returns-then-is_at_limit : goal.returns-then-is_at_limit
returns-then-is_at_limit g c = too_many (sym c.redirects.ensures ∙ c.if-not-redirects.false) (c.is_at_limit.ensures.full c.if-is_at_limit.true)

pub returns-in-Ok : goal.returns-in-Ok
returns-in-Ok g c = (sym c.redirects.ensures ∙ c.if-not-redirects.false, c.is_at_limit.ensures.room c.if-is_at_limit.false, c.in-Ok.ensures)

pub returns-in-Err : goal.returns-in-Err
returns-in-Err g c =
    refused_or _ _ _ _ _ (sym c.redirects.ensures ∙ c.if-not-redirects.false) (c.is_at_limit.ensures.room c.if-is_at_limit.false) c.in-Err.ensures c.code-in-Err.ensures
