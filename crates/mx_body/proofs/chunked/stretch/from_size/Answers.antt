use Rattle.std.proofs.Common.{ℕ, inl, inr, subst, sym, arith}
use Rattle.mx_body.specs.declared.chunked.place.ChunkedPlace.{ChunkedPlace}
use Rattle.mx_body.specs.declared.chunked.place.ChunkedPlace.TheVariants.{Size}
use Rattle.mx_body.specs.ChunkedStretch.{GoesOn}
use Rattle.mx_body.proofs.ChunkedStretchLemmas.{from_start}
use Rattle.mx_body.proofs.chunked.stretch.from_size.Goals as goal

pub returns : goal.returns
returns c =
    let limit = c.args.limit in
    let input = c.args.input.now in
    let n = c.digits-value.result.1 in
    let v = c.digits-value.result.0 in
    let g = c.digits-value.ensures.goes_on in
    c.line_of_size.ensures limit c.args.place (elim c.requires.place [
      | inl is ↦ subst (λ (p : ChunkedPlace). GoesOn limit p (Size v) n input) (sym is) g
      | inr is ↦ subst (λ (p : ChunkedPlace). GoesOn limit p (Size v) n input) (sym is.0)
          (from_start limit v n input (omega (arith, c.if-n-eq0.false)) (c.digits-value.ensures.first (omega (arith, c.if-n-eq0.false))) (subst (λ (m : ℕ). GoesOn limit (Size m) (Size v) n input) is.1 g))
    ])
