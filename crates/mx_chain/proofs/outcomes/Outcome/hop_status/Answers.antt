use Rattle.std.proofs.Common.{◌≡◌, ◌≢◌, length, Option, Some, sym, ap, ◌∙◌, arith, ℕ}
use Rattle.std.specs.Prelude.{option_map}
use Rattle.mx_exchange.specs.Exchanges.{HopValue}
use Rattle.mx_chain.proofs.Places.{at_last, before_last}
use Rattle.mx_chain.proofs.outcomes.Outcome.hop_status.Goals as goal

pub returns-then-i-len : goal.returns-then-i-len
returns-then-i-len g c =
    let e : c.args.i ≡ length c.self.inside.earlier.all = omega arith in
    rw (← c.self.view_is)
    (ap (λ (x : ℕ). Some x) c.status.ensures.status ∙ ap (λ (o : Option HopValue). option_map (λ (h : HopValue). h.status) o) (sym (at_last _ _ _ e)))

pub returns : goal.returns
returns g c =
    let other : c.args.i ≢ length c.self.inside.earlier.all = (λ same. omega arith) in
    rw (← c.self.view_is) (c.status-2.ensures ∙ ap (λ (o : Option HopValue). option_map (λ (h : HopValue). h.status) o) (sym (before_last _ _ _ other)))
