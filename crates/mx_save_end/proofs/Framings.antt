-- The framing of the heads of a response is that of the response.
use Rattle.std.proofs.Common.{◌∙◌, refl, ap, sym, subst, ℕ, List, [], ◌++◌, append-nil, inl, inr}
use Rattle.std.specs.Prelude.{Option}
use Rattle.httparse.specs.Grammar.{ResponseHead, print_response}
use Rattle.mx_types.specs.declared.method.Method.{Method}
use Rattle.mx_head.specs.Framing.{framing_of}
use Rattle.mx_body.specs.Decision.{HasHeads}
use Rattle.mx_body.specs.Response.{StandsAtBody, print_heads}
use Rattle.mx_body.proofs.HeadsLemmas.{body_stands, same_body}
use Rattle.mx_save_rules.specs.declared.end.FramingWord.{FramingWord}
use Rattle.mx_save_end.specs.Framings.{TellsFraming, word_of}

-- the heads of a text alone
heads_alone : (text : List ℕ) (hs : List ResponseHead) (h : ResponseHead) (rest : List ℕ) → StandsAtBody text hs h rest → StandsAtBody (print_heads hs ++ print_response h) hs h []
heads_alone text hs h rest s = (s.0, (s.1.0, ap (λ (t : List ℕ). print_heads hs ++ t) (sym (append-nil (print_response h)))))

pub told_by_heads : (m : Method) (wire heads : List ℕ) (told : Option FramingWord) → HasHeads wire heads → TellsFraming m heads told → TellsFraming m wire told
told_by_heads m wire heads told (inl k) t =
    let alone = subst (λ x. StandsAtBody x k.0 k.1 []) (sym k.4) (heads_alone wire k.0 k.1 k.2 k.3) in
    elim t [
      | inl s ↦ inl (k.0, k.1, k.2, k.3, s.4 ∙ ap (λ h. word_of (framing_of m h)) (same_body heads k.0 s.0 k.1 s.1 [] s.2 alone s.3).1)
      | inr n ↦ absurd (n.0 (k.0, k.1, [], alone))
    ]
told_by_heads m wire heads told (inr k) t =
    elim t [
      | inl s ↦ absurd (k.0 (s.0, s.1, s.2 ++ wire, body_stands wire [] wire s.0 s.1 s.2 refl (subst (λ x. StandsAtBody x s.0 s.1 s.2) k.1 s.3)))
      | inr n ↦ inr (k.0, n.1)
    ]
