use Rattle.std.proofs.Common.{◌≡◌, true, false, subst}
use Rattle.mx_body.specs.Decision.{IsVerdict}
use Rattle.mx_body.specs.declared.verdict.Verdict.{Verdict}
use Rattle.mx_body.proofs.decoder.Decoder.end.Goals as goal

pub returns-in_default-clause-exact : goal.returns-in_default-clause-exact
returns-in_default-clause-exact c = rw (← c.self.view_is) c.self.invariant.0

pub invariant_of-self : goal.invariant_of-self
invariant_of-self c =
    let new = rw c.as_slice.ensures.value at c.in_ok-verdict.ensures.verdict in (
      new,
      c.self.invariant.1,
      λ e.
          let more = subst (λ (v : Verdict). IsVerdict c.self.inside.method c.self.inside.wire.items true v) e new in
          let both : true ≡ false = more.2 in absurd (cc),
    )

pub returns-clause-exact : goal.returns-clause-exact
returns-clause-exact c = rw c.as_slice.ensures.value at c.in_ok-verdict.ensures.verdict
