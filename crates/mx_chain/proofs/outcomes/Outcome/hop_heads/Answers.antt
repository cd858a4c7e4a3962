use Rattle.std.proofs.Common.{◌≡◌, ◌≢◌, ◌∷◌, [], length, Option, refl, sym, subst, arith, length-append}
use Rattle.std.specs.Prelude.{IfSome}
use Rattle.mx_body.specs.Decision.{HasHeads}
use Rattle.mx_exchange.specs.Exchanges.{HopValue}
use Rattle.mx_chain.proofs.Places.{at_last, before_last}
use Rattle.mx_chain.proofs.outcomes.Outcome.hop_heads.Goals as goal

pub returns-then-i-len-clause-count : goal.returns-then-i-len-clause-count
returns-then-i-len-clause-count g c =
    let e : c.args.i ≡ length c.self.inside.earlier.all = omega arith in
    rw (← c.self.view_is) (λ some. omega (arith, e, length-append c.self.inside.earlier.all (c.self.inside.last ∷ [])), λ less. refl)

pub returns-then-i-len-clause-heads : goal.returns-then-i-len-clause-heads
returns-then-i-len-clause-heads g c =
    let e : c.args.i ≡ length c.self.inside.earlier.all = omega arith in
    rw (← c.self.view_is)
    (subst (λ (o : Option HopValue). IfSome o (λ h. HasHeads h.wire c.heads_of.result.now)) (sym (at_last _ _ _ e)) c.heads_of.ensures)

pub returns-clause-count : goal.returns-clause-count
returns-clause-count g c =
    let other : c.args.i ≢ length c.self.inside.earlier.all = (λ same. omega arith) in
    let more = length-append c.self.inside.earlier.all (c.self.inside.last ∷ []) in
    let count = c.heads.ensures.count in
    rw (← c.self.view_is)
    (λ some. (let less = count.0 some in omega (arith, less, more)), λ less. count.1 (omega (arith, less, more, other)))

pub returns-clause-heads : goal.returns-clause-heads
returns-clause-heads g c =
    let other : c.args.i ≢ length c.self.inside.earlier.all = (λ same. omega arith) in
    rw (← c.self.view_is)
    (subst (λ (o : Option HopValue). IfSome c.heads.result (λ heads. IfSome o (λ h. HasHeads h.wire heads.now))) (sym (before_last _ _ _ other)) c.heads.ensures.heads)
