use Rattle.std.proofs.Common.{rules}
use Rattle.mx_exchange.proofs.HopLemmas.{front_of_outcome, all_of_outcome}
use Rattle.mx_exchange.proofs.hops.Hop.kept.Goals as goal

pub returns-clause-keeps : goal.returns-clause-keeps
returns-clause-keeps c = rw (← c.self.view_is, c.as_slice.ensures.value) c.self.invariant.outcome.keeps

pub returns-clause-front : goal.returns-clause-front
returns-clause-front c = rw (← c.self.view_is) (front_of_outcome _ c.self.invariant.outcome)

pub returns-clause-all : goal.returns-clause-all
returns-clause-all c = rw (← c.self.view_is) (λ other. all_of_outcome _ c.self.invariant.outcome other)

pub returns-clause-kept : goal.returns-clause-kept
returns-clause-kept c = search rules
