-- The result of an end that was handed in.
use Rattle.std.proofs.Common.{◌≡◌, ◌∙◌, inl, inr, List, [], ◌∷◌, ◌++◌, refl, sym, ap, subst, Some, None}
use Rattle.mx_turn.specs.Workers.{Finish, recorded, stale, lacking, unseated, Deed, finishes, Worker}
use Rattle.mx_turn.specs.Turn.{handed_in}
use Rattle.mx_turn.specs.Engines.{EndView, HandsIn}

-- what comes back is the end that was handed in, for which memory was refused
pub came_back : {L : Type 0} (was is : List (Deed L)) (e back : EndView) (h : HandsIn was is e (Some back)) → (h.f ≡ lacking) × (back ≡ e)
came_back was is e back h = decide h.f refl where
  decide : (f : Finish) → h.f ≡ f → (h.f ≡ lacking) × (back ≡ e)
  decide recorded r = let x : Some back ≡ None = h.is_taken (inl (inl r)) in absurd cc
  decide stale r = let x : Some back ≡ None = h.is_taken (inl (inr r)) in absurd cc
  decide lacking r = (r, let x : Some back ≡ Some e = h.comes_back r in cc)
  decide unseated r = let x : Some back ≡ None = h.is_taken (inr r) in absurd cc

module _ {L : Type 0} (w : Worker L) (is : List (Deed L)) (e : EndView) where
  did_so : (f : Finish) → is ≡ w.did ++ finishes e.end.ticket e.end.outcome f ∷ [] → record w { did = is } ≡ record w { did = w.did ++ finishes e.end.ticket e.end.outcome f ∷ [] }
  did_so f did = ap (λ (d : List (Deed L)). record w { did = d }) did

  -- it did not come back
  pub was_taken : (h : HandsIn w.did is e None) → record w { did = is } ≡ handed_in e.end.ticket e.end.outcome h.f w
  was_taken h = did_so h.f h.did ∙ decide h.f refl where
    decide : (f : Finish) → h.f ≡ f → record w { did = w.did ++ finishes e.end.ticket e.end.outcome f ∷ [] } ≡ handed_in e.end.ticket e.end.outcome f w
    decide recorded r = refl
    decide stale r = refl
    decide lacking r = let x : None ≡ Some e = h.comes_back r in absurd cc
    decide unseated r = refl

  -- it came back, and was set aside
  pub was_set_aside : (back : EndView) (h : HandsIn w.did is e (Some back)) → record w { did = is; set_aside = w.set_aside ++ back.end ∷ [] } ≡ handed_in e.end.ticket e.end.outcome h.f w
  was_set_aside back h =
      let is_back = came_back w.did is e back h in
      let did : is ≡ w.did ++ finishes e.end.ticket e.end.outcome lacking ∷ [] = subst (λ (f : Finish). is ≡ w.did ++ finishes e.end.ticket e.end.outcome f ∷ []) is_back.0 h.did in
      let at : record w { did = is; set_aside = w.set_aside ++ back.end ∷ [] } ≡ handed_in e.end.ticket e.end.outcome lacking w =
      ap (λ (d : List (Deed L)). record w { did = d; set_aside = w.set_aside ++ back.end ∷ [] }) did ∙ ap (λ (x : EndView). record w { did = w.did ++ finishes e.end.ticket e.end.outcome lacking ∷ []; set_aside = w.set_aside ++ x.end ∷ [] }) is_back.1 in
      subst (λ (f : Finish). record w { did = is; set_aside = w.set_aside ++ back.end ∷ [] } ≡ handed_in e.end.ticket e.end.outcome f w) (sym is_back.0) at
