use Rattle.std.proofs.Common.{inl, inr, refl, subst}
use Rattle.mx_body.specs.declared.chunked.place.ChunkedPlace.{ChunkedPlace}
use Rattle.mx_body.specs.ChunkedStretch.{GoesOn}
use Rattle.mx_body.proofs.ChunkedStretchLemmas.{size_ends, extension_ends}
use Rattle.mx_body.proofs.chunked.stretch.line_of_size.Goals as goal

pub returns : goal.returns
returns c limit place g =
    let within = c.if-not-is_crlf_at.ensures.within refl in
    let there = c.if-not-is_crlf_at.ensures.there refl in
    rw (c.after_line.ensures, c.data_of.ensures) (elim c.requires.next [
      | inl is ↦ size_ends limit place c.args.size c.args.n c.args.input.now within there (subst (λ (p : ChunkedPlace). GoesOn limit place p c.args.n c.args.input.now) is g)
      | inr is ↦ extension_ends limit place c.args.size c.args.n c.args.input.now within there (subst (λ (p : ChunkedPlace). GoesOn limit place p c.args.n c.args.input.now) is g)
    ])
