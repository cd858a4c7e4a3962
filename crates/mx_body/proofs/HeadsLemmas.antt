-- The heads at the front of an input.
use Rattle.std.proofs.Common.{suc, ◌≡◌, ℕ, ◌*◌, ◌<◌, ◌≤◌, ◌⊎◌, inl, inr, List, [], ◌∷◌, ◌++◌, length, refl, sym, ap, subst, ◌∙◌, arith, append_assoc, length-append, All}
use Rattle.httparse.specs.Grammar.{ResponseHead, print_response, status_code}
use Rattle.httparse.proofs.GrammarLemmas.{response_unique}
use Rattle.mx_head.specs.Heads.{IsHead, HasNoHead}
use Rattle.mx_head.specs.Limits.{most_interim}
use Rattle.mx_head.specs.Faults.{HeadCause, MeetsAtHead}
use Rattle.mx_head.proofs.FaultLemmas.{head_meets_nothing}
use Rattle.mx_body.specs.Response.{IsInterimStatus, IsInterim, AreInterim, IsFinal, print_heads, StandsAtHead, StandsAtBody}
use Rattle.mx_body.specs.Causes.{IsRefused}

-- two heads at one place are one
pub same_head : (h k : ResponseHead) (r q : List ℕ) → IsHead h → IsHead k → print_response h ++ r ≡ print_response k ++ q → (h ≡ k) × (r ≡ q)
same_head h k r q a b e = response_unique (print_response h ++ r) h k r q (a.grammar, refl) (b.grammar, e)

pub print_heads-append : (hs ks : List ResponseHead) → print_heads (hs ++ ks) ≡ print_heads hs ++ print_heads ks
print_heads-append [] ks = refl
print_heads-append (h ∷ hs) ks = ap (λ (t : List ℕ). print_response h ++ t) (print_heads-append hs ks) ∙ sym (append_assoc (print_response h) (print_heads hs) (print_heads ks))

pub no_interim : AreInterim []
no_interim = record { each = λ k d lt. absurd (omega (arith, lt)); few = omega arith }

tail_each : (h : ResponseHead) (hs : List ResponseHead) → All IsInterim (h ∷ hs) → All IsInterim hs
tail_each h hs each k d lt = each (suc k) d (omega (arith, lt))

-- In one input a follows the interim heads hs, and b follows ks: where ks is shorter, b begins with an interim head.
pub record IsEarlier (hs ks : List ResponseHead) (b : List ℕ) : Type 0 where
  pub next : ResponseHead
  pub rest : List ℕ
  pub interim : IsInterim next
  pub is : b ≡ print_response next ++ rest
  pub shorter : length ks < length hs

pub compare_heads : (hs ks : List ResponseHead) (a b : List ℕ) → All IsInterim hs → All IsInterim ks → print_heads hs ++ a ≡ print_heads ks ++ b
    → ((ks ≡ hs) × (b ≡ a)) ⊎ IsEarlier hs ks b ⊎ IsEarlier ks hs a
compare_heads [] [] a b x y e = inl (refl, sym e)
compare_heads [] (k ∷ ks) a b x y e = inr (inr (record {
  next = k;
  rest = print_heads ks ++ b;
  interim = y 0 k (omega arith);
  is = e ∙ append_assoc (print_response k) (print_heads ks) b;
  shorter = omega arith;
}))
compare_heads (h ∷ hs) [] a b x y e = inr (inl (record {
  next = h;
  rest = print_heads hs ++ a;
  interim = x 0 h (omega arith);
  is = sym e ∙ append_assoc (print_response h) (print_heads hs) a;
  shorter = omega arith;
}))
compare_heads (h ∷ hs) (k ∷ ks) a b x y e =
    let same = same_head h k (print_heads hs ++ a) (print_heads ks ++ b) (x 0 h (omega arith)).head (y 0 k (omega arith)).head
    (sym (append_assoc (print_response h) (print_heads hs) a) ∙ e ∙ append_assoc (print_response k) (print_heads ks) b) in
    elim (compare_heads hs ks a b (tail_each h hs x) (tail_each k ks y) same.1) [
      | inl both ↦ inl ((λ i. sym same.0 i ∷ both.0 i), both.1)
      | inr one ↦ elim one [
        | inl earlier ↦ inr (inl (record { next = earlier.next; rest = earlier.rest; interim = earlier.interim; is = earlier.is; shorter = omega (arith, earlier.shorter) }))
        | inr later ↦ inr (inr (record { next = later.next; rest = later.rest; interim = later.interim; is = later.is; shorter = omega (arith, later.shorter) }))
      ]
    ]

-- what follows a prefix of the input
pub head_stands : (text p more : List ℕ) (hs : List ResponseHead) (r : List ℕ) → text ≡ p ++ more → StandsAtHead p hs r → StandsAtHead text hs (r ++ more)
head_stands text p more hs r e s = (s.0, e ∙ ap (λ (t : List ℕ). t ++ more) s.1 ∙ append_assoc (print_heads hs) r more)

pub body_stands : (text p more : List ℕ) (hs : List ResponseHead) (h : ResponseHead) (r : List ℕ) → text ≡ p ++ more → StandsAtBody p hs h r → StandsAtBody text hs h (r ++ more)
body_stands text p more hs h r e s =
    let at = head_stands text p more hs (print_response h ++ r) e s.1 in
    (s.0, (at.0, at.1 ∙ ap (λ (t : List ℕ). print_heads hs ++ t) (append_assoc (print_response h) r more)))

-- no interim head that is passed follows hs
abbrev pub Stops : List ResponseHead → List ℕ → Type 0
Stops hs rest = (g : ResponseHead) (t : List ℕ) → IsInterim g → rest ≡ print_response g ++ t → length hs < most_interim → ⊥

pub none_stops : (hs : List ResponseHead) (rest : List ℕ) → HasNoHead rest → Stops hs rest
none_stops hs rest none g t interim e few = none g t (interim.head, e)

pub final_stops : (hs : List ResponseHead) (h : ResponseHead) (rest after : List ℕ) → rest ≡ print_response h ++ after → IsFinal h → Stops hs rest
final_stops hs h rest after e final g t interim is few =
    let same = same_head h g after t final.head interim.head (sym e ∙ is) in
    final.status (subst (λ (k : ResponseHead). IsInterimStatus (status_code k)) (sym same.0) interim.status)

pub refused_stops : (hs : List ResponseHead) (h : ResponseHead) (rest after : List ℕ) → rest ≡ print_response h ++ after → IsRefused hs h → Stops hs rest
refused_stops hs h rest after e refused g t interim is few =
    let same = same_head h g after t refused.head interim.head (sym e ∙ is) in
    elim refused.refused [
      | inl leaves ↦ interim.stays (ap status_code (sym same.0) ∙ leaves)
      | inr over ↦ omega (arith, few, over.0)
    ]

-- where the interim heads stop after hs, others stop there too, or before
pub stand_there : (text : List ℕ) (hs ks : List ResponseHead) (a b : List ℕ) → StandsAtHead text hs a → Stops hs a → StandsAtHead text ks b
    → ((ks ≡ hs) × (b ≡ a)) ⊎ IsEarlier hs ks b
stand_there text hs ks a b s stops t =
    elim (compare_heads hs ks a b s.0.each t.0.each (sym s.1 ∙ t.1)) [
      | inl both ↦ inl both
      | inr one ↦ elim one [
        | inl earlier ↦ inr earlier
        | inr later ↦ absurd (stops later.next later.rest later.interim later.is (omega (arith, later.shorter, t.0.few)))
      ]
    ]

-- before an interim head that is passed over nothing is met
pub earlier_meets : {hs ks : List ResponseHead} {b : List ℕ} → IsEarlier hs ks b → (q more : List ℕ) (cause : HeadCause) → b ≡ q ++ more → MeetsAtHead q cause → ⊥
earlier_meets {hs} {ks} {b} earlier q more cause e x = head_meets_nothing b earlier.next earlier.rest (earlier.interim.head, earlier.is) q more cause e x

pub earlier_refused : {hs ks : List ResponseHead} {b : List ℕ} → IsEarlier hs ks b → AreInterim hs → (k : ResponseHead) (more : List ℕ) → b ≡ print_response k ++ more → IsRefused ks k → ⊥
earlier_refused {hs} {ks} {b} earlier are k more e refused =
    let same = same_head earlier.next k earlier.rest more earlier.interim.head refused.head (sym earlier.is ∙ e) in
    elim refused.refused [
      | inl leaves ↦ earlier.interim.stays (ap status_code same.0 ∙ leaves)
      | inr over ↦ omega (arith, over.0, are.few, earlier.shorter)
    ]

pub earlier_final : {hs ks : List ResponseHead} {b : List ℕ} → IsEarlier hs ks b → (k : ResponseHead) (more : List ℕ) → b ≡ print_response k ++ more → IsFinal k → ⊥
earlier_final {hs} {ks} {b} earlier k more e final =
    let same = same_head earlier.next k earlier.rest more earlier.interim.head final.head (sym earlier.is ∙ e) in
    final.status (subst (λ (g : ResponseHead). IsInterimStatus (status_code g)) same.0 earlier.interim.status)

-- an input has one final head
pub same_body : (text : List ℕ) (hs ks : List ResponseHead) (h k : ResponseHead) (a b : List ℕ) → StandsAtBody text hs h a → StandsAtBody text ks k b
    → (ks ≡ hs) × (k ≡ h) × (b ≡ a)
same_body text hs ks h k a b s t =
    elim (stand_there text hs ks (print_response h ++ a) (print_response k ++ b) s.1 (final_stops hs h (print_response h ++ a) a refl s.0) t.1) [
      | inl both ↦
          let same = same_head k h b a t.0.head s.0.head both.1 in
          (both.0, same.0, same.1)
      | inr earlier ↦ absurd (earlier_final earlier k b refl t.0)
    ]

-- the heads before a body are short enough
pub heads_small : (hs : List ResponseHead) → All IsInterim hs → length (print_heads hs) ≤ 65536 * length hs
heads_small [] each = omega arith
heads_small (h ∷ hs) each =
    let one = (each 0 h (omega arith)).head.bytes in
    omega (arith, one, length-append (print_response h) (print_heads hs), heads_small hs (λ k d lt. each (suc k) d (omega (arith, lt))))

pub body_start_small : (text : List ℕ) (hs : List ResponseHead) (h : ResponseHead) (rest : List ℕ) → StandsAtBody text hs h rest
    → length (print_heads hs ++ print_response h) ≤ 1114112
body_start_small text hs h rest s =
    omega (arith, heads_small hs s.1.0.each, s.1.0.few, s.0.head.bytes, length-append (print_heads hs) (print_response h))

pub body_start_within : (text : List ℕ) (hs : List ResponseHead) (h : ResponseHead) (rest : List ℕ) → StandsAtBody text hs h rest
    → length (print_heads hs ++ print_response h) ≤ length text
body_start_within text hs h rest s =
    omega (arith, ap length s.1.1, length-append (print_heads hs) (print_response h ++ rest), length-append (print_response h) rest, length-append (print_heads hs) (print_response h))
