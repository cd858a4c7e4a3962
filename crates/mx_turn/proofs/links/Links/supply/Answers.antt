use Rattle.std.proofs.Common.{◌≡◌, refl, true, false}
use Rattle.mx_turn.proofs.Supplying.{by_none, by_idle, by_delay, by_gate, by_put_off_again}
use Rattle.mx_turn.proofs.links.Links.supply.Goals as goal

pub returns-in_default-clause-supplied : goal.returns-in_default-clause-supplied
returns-in_default-clause-supplied g c = by_none _ _ _ _ _ _ _ _ (λ wants. let x : false ≡ true = c.in_default.ensures.wants.1 wants in cc) refl refl refl

pub returns-in-Some-take-clause-supplied : goal.returns-in-Some-take-clause-supplied
returns-in-Some-take-clause-supplied g c = by_idle _ _ _ _ _ _ _ _ _ _ _ (c.in-Some.ensures.wants.0 refl) c.in-Some.ensures.which.0 c.in-Some.ensures.which.1 c.in-Some-take.ensures c.attach.ensures refl

pub returns-clause-supplied : goal.returns-clause-supplied
returns-clause-supplied g c = by_gate _ _ _ _ _ _ _ _ _ _ _ _ _ _ (c.in-Some.ensures.wants.0 refl) c.in-Some.ensures.which.0 c.in-Some.ensures.which.1 c.in_default-take.ensures c.in-Some-open.ensures.fresh c.in-Some-open.ensures.code c.give.ensures.given c.if-not-can_open.false c.can_open.ensures.noted c.in-Some-open.ensures.opens

pub returns-then-not-can_open-clause-supplied : goal.returns-then-not-can_open-clause-supplied
returns-then-not-can_open-clause-supplied g c = by_delay _ _ _ _ _ _ _ _ _ _ _ (c.in-Some.ensures.wants.0 refl) c.in-Some.ensures.which.0 c.in-Some.ensures.which.1 c.in_default-take.ensures c.if-not-can_open.true refl c.can_open.ensures.noted

pub returns-in_default-open-clause-supplied : goal.returns-in_default-open-clause-supplied
returns-in_default-open-clause-supplied g c = by_put_off_again _ _ _ _ _ _ _ _ _ _ _ _ _ (c.in-Some.ensures.wants.0 refl) c.in-Some.ensures.which.0 c.in-Some.ensures.which.1 c.in_default-take.ensures refl c.if-not-can_open.false c.can_open.ensures.noted c.in_default-open.ensures.opens
