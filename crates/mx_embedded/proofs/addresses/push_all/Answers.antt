use Rattle.std.proofs.Common.{◌∷◌, inl, inr, refl}
use Rattle.std.proofs.lemmas.List.{append_assoc}
use Rattle.mx_embedded.proofs.LineLemmas.{contains_behind, contains_front, of_error}
use Rattle.mx_embedded.proofs.addresses.push_all.Goals as goal

pub loop-piece-preserved : goal.loop-piece-preserved
loop-piece-preserved c =
    let cut = c.in-Some.ensures.pieces in
    let i = c.loop-piece.invariant in
    let pushed = c.in-Ok.ensures.pushed in (
      search,
      (λ more zipped. rw (pushed.2, append_assoc) (i.1 (pushed.0 ∷ more) (rw cut (pushed.1, zipped)))),
      (λ piece there. i.2 piece (contains_behind _ _ _ piece cut there)),
    )

pub returns-in-Err-clause-refused : goal.returns-in-Err-clause-refused
returns-in-Err-clause-refused c = elim c.in-Err.ensures.refused [
  | inl memory ↦ inl memory
  | inr wrong ↦ inr (wrong.0, (_, c.loop-piece.invariant.2 _ (contains_front _ _ _ c.in-Some.ensures.pieces), wrong.1))
]

pub returns-clause-refused : goal.returns-clause-refused
returns-clause-refused c = of_error _ _ c.push_address-2.result
    (λ code says. elim says [
      | inl memory ↦ inl memory
      | inr wrong ↦ inr (wrong.0, (_, c.loop-piece.invariant.2 _ (contains_front _ _ _ c.in_default.ensures.pieces), wrong.1))
    ])
    c.push_address-2.ensures.refused
