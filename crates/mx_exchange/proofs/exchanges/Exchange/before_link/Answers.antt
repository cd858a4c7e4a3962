use Rattle.std.proofs.Common.{refl, inl, inr}
use Rattle.mx_exchange.proofs.StageLemmas.{given_stops}
use Rattle.mx_exchange.proofs.exchanges.Exchange.before_link.Goals as goal

pub returns-then-is_due : goal.returns-then-is_due
returns-then-is_due g c = (inl (c.if-is_due.ensures.0 refl, refl), refl)

pub returns-in-Some : goal.returns-in-Some
returns-in-Some g c =
    (inr ((λ d. let x = c.if-is_due.ensures.1 d in cc), rw (← c.self.view_is) c.in-Some.is), given_stops _ _ (rw (← c.self.view_is) (rw c.in-Some.is at c.self.invariant.failed)))

pub returns-then-self : goal.returns-then-self
returns-then-self g c = (((λ d. let x = c.if-is_due.ensures.1 d in cc), rw (← c.self.view_is) c.in_default.is), rw (← c.self.view_is) c.if-self.true)

pub returns : goal.returns
returns g c = (((λ d. let x = c.if-is_due.ensures.1 d in cc), rw (← c.self.view_is) c.in_default.is), rw (← c.self.view_is) c.if-self.false)
