use Rattle.std.proofs.Common.{List, ℕ, Some, length, refl, sym, ap, subst, ◌∙◌}
use Rattle.std.proofs.lemmas.Option.{slice_get_read}
use Rattle.mx_exchange.specs.Exchanges.{HopValue}
use Rattle.mx_chain.specs.Followed.{AreHeld}
use Rattle.mx_chain.proofs.HopLemmas.{held_read, kept_is}
use Rattle.mx_chain.proofs.followed.Hops.wire.Goals as goal

pub returns-in_ok-get-in-Whole : goal.returns-in_ok-get-in-Whole
returns-in_ok-get-in-Whole c =
    let at = c.in_ok-get-in-Whole.ensures.lookup in
    let held = subst AreHeld (sym c.deref.ensures.value) (rw c.in-Whole.is at c.self.invariant) in
    let limit = ap (λ (o : HopValue). o.limit) at.1 ∙ held_read _ _ _ held at.3.0 in
    let found = slice_get_read c.deref.result.now (length c.deref.result.now) c.args.i c.in_ok-get-in-Whole.field-0.now refl at.3.0 at.1 in
    rw (← c.self.view_is, c.in-Whole.is, ← c.deref.ensures.value, found) (ap (λ (x : List ℕ). Some x) (kept_is _ _ _ limit c.kept.ensures.keeps))
