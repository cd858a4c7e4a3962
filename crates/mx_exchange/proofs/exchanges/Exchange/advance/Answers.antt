use Rattle.std.proofs.Common.{◌≡◌, ℕ, true, Option, refl, sym, ap, subst, ◌∙◌}
use Rattle.mx_line.specs.Endings.{is_stop_code}
use Rattle.mx_exchange.specs.Exchanges.{ExchangeState}
use Rattle.mx_exchange.proofs.Advanced.{Advance-on, Advance-paused, Advance-taken, clock_kept, keeps_same, none_over, over_from, stop_kept}
use Rattle.mx_exchange.proofs.exchanges.Exchange.advance.Goals as goal

pub stop-requires-clause-listed : goal.stop-requires-clause-listed
stop-requires-clause-listed g c =
    subst (λ (n : Option ℕ). is_stop_code c.in-Stops.code n ≡ true) (sym (ap (λ (t : ExchangeState _). t.limit) c.take-live.ensures.is)) c.in-Stops.ensures.1

pub returns-in-Stops-clause-turn : goal.returns-in-Stops-clause-turn
returns-in-Stops-clause-turn g c =
    Advance-taken _ c.args.self.now _ _ c.start_clock.ensures _ _ _ c.take-live.ensures.is c.in-Stops.ensures.0 c.stop.ensures.code c.stop.ensures.stopped

pub returns-in-Stops-clause-token : goal.returns-in-Stops-clause-token
returns-in-Stops-clause-token g c =
    stop_kept g.L.Link.history g.L.Link.token_of c.args.self.now _ _ _ _ c.start_clock.ensures c.take-live.ensures.is c.stop.ensures.stopped

pub returns-in-Pauses-clause-turn : goal.returns-in-Pauses-clause-turn
returns-in-Pauses-clause-turn g c =
    let before = c.in-Pauses.ensures in Advance-paused _ c.args.self.now _ _ c.start_clock.ensures before.0.0 before.0.1 before.1 refl

pub returns-in-Pauses-clause-token : goal.returns-in-Pauses-clause-token
returns-in-Pauses-clause-token g c = keeps_same g.L.Link.history g.L.Link.token_of _ _ (ap (λ (t : ExchangeState _). t.link) c.start_clock.ensures)

pub returns-in-Nothing-clause-turn : goal.returns-in-Nothing-clause-turn
returns-in-Nothing-clause-turn g c = Advance-on _ c.args.self.now _ _ c.start_clock.ensures _ c.touch.ensures.turn

pub returns-in-Nothing-clause-token : goal.returns-in-Nothing-clause-token
returns-in-Nothing-clause-token g c = clock_kept g.L.Link.history g.L.Link.token_of c.args.self.now _ _ c.start_clock.ensures c.touch.ensures.token

pub returns-in-Stops-clause-handed : goal.returns-in-Stops-clause-handed
returns-in-Stops-clause-handed g c =
    none_over _ _ _
    (c.stop.ensures.stopped.content ∙ ap (λ (t : ExchangeState _). t.content) c.take-live.ensures.is ∙ ap (λ (t : ExchangeState _). t.content) c.start_clock.ensures)

pub returns-in-Pauses-clause-handed : goal.returns-in-Pauses-clause-handed
returns-in-Pauses-clause-handed g c = none_over _ _ _ (ap (λ (t : ExchangeState _). t.content) c.start_clock.ensures)

pub returns-in-Nothing-clause-handed : goal.returns-in-Nothing-clause-handed
returns-in-Nothing-clause-handed g c = over_from _ _ _ _ _ (ap (λ (t : ExchangeState _). t.content) c.start_clock.ensures) c.touch.ensures.handed
