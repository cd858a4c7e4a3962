use Rattle.std.proofs.Common.{refl}
use Rattle.mx_exchange.specs.Turns.{refused, turned}
use Rattle.mx_exchange.proofs.Advanced.{Touch-unserved, keeps_probed, keeps_same, none_over, over_from, probed_ready}
use Rattle.mx_exchange.proofs.exchanges.Exchange.touch.Goals as goal

pub returns-then-lacks_link-clause-turn : goal.returns-then-lacks_link-clause-turn
returns-then-lacks_link-clause-turn g c = Touch-unserved _ _ _ c.requires.may (c.if-lacks_link.ensures refl) refl

pub returns-then-lacks_link-clause-token : goal.returns-then-lacks_link-clause-token
returns-then-lacks_link-clause-token g c = keeps_same g.L.Link.history g.L.Link.token_of _ _ refl

pub returns-then-lacks_link-clause-handed : goal.returns-then-lacks_link-clause-handed
returns-then-lacks_link-clause-handed g c = none_over _ _ _ refl

pub returns-then-not-probe_first-clause-handed : goal.returns-then-not-probe_first-clause-handed
returns-then-not-probe_first-clause-handed g c = none_over _ _ _ c.if-not-probe_first.ensures.content

pub returns-clause-handed : goal.returns-clause-handed
returns-clause-handed g c = over_from _ _ _ _ _ c.if-not-probe_first.ensures.content c.exchange_buffered.ensures.handed

pub exchange_buffered-requires-clause-probed : goal.exchange_buffered-requires-clause-probed
exchange_buffered-requires-clause-probed g c = probed_ready _ _ _ c.if-not-probe_first.ensures.probe

pub returns-then-not-probe_first-clause-turn : goal.returns-then-not-probe_first-clause-turn
returns-then-not-probe_first-clause-turn g c = refused c.requires.may c.if-not-probe_first.ensures.probe

pub returns-clause-turn : goal.returns-clause-turn
returns-clause-turn g c = turned c.requires.may _ c.if-not-probe_first.ensures.probe c.exchange_buffered.ensures.turn

pub returns-clause-token : goal.returns-clause-token
returns-clause-token g c = keeps_probed g.L.Link.history g.L.Link.token_of _ _ _ c.if-not-probe_first.ensures.probe c.if-not-probe_first.ensures.token c.exchange_buffered.ensures.token
