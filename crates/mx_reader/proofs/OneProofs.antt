-- The bytes of a response have one judgement.
use Rattle.std.proofs.Common.{◌≡◌, ◌≢◌, ℕ, ◌⊎◌, inl, inr, Bool, true, false, List, [], ◌∷◌, ◌++◌, length, refl, sym, ap, subst, ◌∙◌, arith, append_assoc, length-append, Ok}
use Rattle.std.proofs.lemmas.Bool.{cases_lt}
use Rattle.std.proofs.lemmas.List.{append-nil, nil_from_length}
use Rattle.std.specs.Prelude.{Some, None, not, ◌&&◌}
use Rattle.httparse.specs.Grammar.{ResponseHead}
use Rattle.mx_types.specs.declared.code.Code.{Code}
use Rattle.mx_types.specs.declared.method.Method.{Method}
use Rattle.mx_head.specs.declared.types.Framing.{Framing}
use Rattle.mx_head.specs.declared.types.Framing.TheVariants.{Empty, Counted, Chunked, Close}
use Rattle.mx_head.specs.Framing.{framing_of, keeps_of}
use Rattle.mx_head.specs.Faults.{ComesFirst}
use Rattle.mx_head.proofs.FirstLemmas.{one_first}
use Rattle.mx_head.proofs.LineLemmas.{front_of}
use Rattle.mx_body.specs.Causes.{cause_code, cause_line, Meets}
use Rattle.mx_body.specs.Decision.{HasFinalHead, EndsTooSoon, is_close}
use Rattle.mx_body.specs.Laws.{IsSameVerdict}
use Rattle.mx_body.specs.declared.decoder.Stand.{Stand}
use Rattle.mx_body.specs.declared.decoder.Stand.TheVariants as stand
use Rattle.mx_body.specs.declared.verdict.Verdict.{Verdict}
use Rattle.mx_body.specs.declared.verdict.Verdict.TheVariants as verdict
use Rattle.mx_body.proofs.EmptyLemmas.{no_final}
use Rattle.mx_body.proofs.HeadsLemmas.{body_stands, same_body}
use Rattle.mx_body.proofs.LawLemmas.{one_verdict}
use Rattle.mx_body.proofs.ResponseLemmas.{close_or_not}
use Rattle.mx_flow.specs.Flows.{IsFramed, IsOpen, IsOpenBefore, IsTooLarge}
use Rattle.mx_flow.specs.Responses.{IsResponseOf, HasCome}
use Rattle.mx_flow.specs.Streams.{IsUndecidedOf, IsHopelessOf, IsFaultOf, HasContent}
use Rattle.mx_flow.specs.declared.stream_state.StreamState.TheVariants as state
use Rattle.mx_flow.proofs.ResponseProofs.{all_of_one}
use Rattle.mx_reader.specs.Judgements.{Judgement, judgement_of, StandsSo, BeginsWithResponseOf, HasWhole, BeginsWithFault, EndsWithFault, HasMore, HasNoEnd}
use Rattle.mx_reader.specs.Laws.{HasOneJudgement}
use Rattle.mx_reader.proofs.HeadsLemmas.{never_final, final_stays}
use Rattle.mx_reader.proofs.FrontLemmas.{open_front, one_framed, undecided_front, one_state}

one_framing : (m : Method) (h k : ResponseHead) (f g : Framing) → h ≡ k → framing_of m h ≡ Ok f → framing_of m k ≡ Ok g → f ≡ g
one_framing m h k f g same a b =
    let e : framing_of m h ≡ Ok g = ap (framing_of m) same ∙ b in
    cc

one_end : (x : List ℕ) (c d : Code) → EndsTooSoon x c → EndsTooSoon x d → c ≡ d
one_end x c d (inl a) (inl b) = a.1 ∙ sym b.1
one_end x c d (inl a) (inr (inl b)) = absurd (b.0 a.0)
one_end x c d (inl a) (inr (inr b)) = absurd (no_final (subst HasFinalHead a.0 b.0))
one_end x c d (inr (inl a)) (inl b) = absurd (a.0 b.0)
one_end x c d (inr (inl a)) (inr (inl b)) = a.2 ∙ sym b.2
one_end x c d (inr (inl a)) (inr (inr b)) = absurd (a.1 b.0)
one_end x c d (inr (inr a)) (inl b) = absurd (no_final (subst HasFinalHead b.0 a.0))
one_end x c d (inr (inr a)) (inr (inl b)) = absurd (b.1 a.0)
one_end x c d (inr (inr a)) (inr (inr b)) = a.1 ∙ sym b.1

-- the first cause stays the first, whatever comes then
first_stays : (m : Method) (a b : List ℕ) (code : Code) → ComesFirst cause_code cause_line (Meets m) a code → ComesFirst cause_code cause_line (Meets m) (a ++ b) code
first_stays m a b code f = record {
  front = f.front;
  after = f.after ++ b;
  is_prefix = ap (λ (t : List ℕ). t ++ b) f.is_prefix ∙ append_assoc f.front f.after b;
  cause = f.cause;
  meets = f.meets;
  code_is = f.code_is;
  first = λ q more other e x ne le.
      let c = front_of q f.front more (f.after ++ b) (sym e ∙ ap (λ (t : List ℕ). t ++ b) f.is_prefix ∙ append_assoc f.front f.after b) le in
      f.first q (c.0 ++ f.after) other (f.is_prefix ∙ ap (λ (t : List ℕ). t ++ f.after) c.1 ∙ append_assoc q c.0 f.after) x ne le;
}

module _ (limit : ℕ) (m : Method) where
  -- before a fault behind the final head nothing was decided
  large_before : (framing : Framing) (came : List ℕ) → IsTooLarge limit framing came → (came ≡ []) ⊎ IsOpenBefore limit framing came
  large_before Empty came x = absurd x
  large_before (Counted n) came x = inl x.0
  large_before Chunked came x = inr x.0
  large_before Close came x = inr x.0

  -- a front of a body that was open before its last byte is open
  open_before : (framing : Framing) (a b : List ℕ) → b ≢ [] → IsOpenBefore limit framing (a ++ b) → IsOpen limit framing a
  open_before framing a b some o = elim (cases_lt (length o.0) (length a)) [
    | inl short ↦ absurd (some (nil_from_length b (omega (arith, short, ap length o.2, length-append a b, length-append o.0 (o.1 ∷ [])))))
    | inr long ↦
        let f = front_of a o.0 b (o.1 ∷ []) o.2 long in
        open_front limit framing a f.0 (subst (IsOpen limit framing) f.1 o.3)
  ]

  -- before a fault behind the final head nothing was decided
  fault_before : (a b : List ℕ) (code : Code) → b ≢ [] → HasFinalHead a → IsFaultOf limit m (a ++ b) code → IsUndecidedOf limit m a
  fault_before a b code some g (inl f) = absurd (f.0 (final_stays a b g))
  fault_before a b code some g (inr (inl f)) =
      let same = same_body (a ++ b) g.0 f.0 g.1 f.1 (g.2 ++ b) [] (body_stands (a ++ b) a b g.0 g.1 g.2 refl g.3) f.2 in
      absurd (some (nil_from_length b (omega (arith, ap length same.2, length-append g.2 b))))
  fault_before a b code some g (inr (inr f)) =
      let come = f.2 in
      let same = same_body (a ++ b) g.0 come.interim g.1 come.head (g.2 ++ b) f.1 (body_stands (a ++ b) a b g.0 g.1 g.2 refl g.3) come.stands in
      let asked : framing_of m g.1 ≡ Ok f.0 = ap (framing_of m) (sym same.1) ∙ come.asked in
      let at : (f.1 ≡ []) ⊎ IsOpenBefore limit f.0 f.1 → IsUndecidedOf limit m a = λ x. elim x [
        | inl none ↦ absurd (some (nil_from_length b (omega (arith, ap length none, ap length same.2, length-append g.2 b))))
        | inr o ↦ inr (f.0, g.2, record { interim = g.0; head = g.1; stands = g.3; asked = asked }, open_before f.0 g.2 b some (subst (IsOpenBefore limit f.0) same.2 o))
      ] in
      elim f.3 [ inl bad ↦ at (inr bad.0.0) | inr large ↦ at (large_before f.0 f.1 large.0) ]

  final_of : (bytes content : List ℕ) (ended : Bool) → IsResponseOf limit m bytes ended content → HasFinalHead bytes
  final_of bytes content ended r = (r.interim, r.head, r.body, r.stands)

  -- a response that the end doesn't end is one before the end
  framed_any : (framing : Framing) (ended later : Bool) (body content : List ℕ) → framing ≢ Close → IsFramed limit framing ended body content → IsFramed limit framing later body content
  framed_any Empty ended later body content other x = x
  framed_any (Counted n) ended later body content other x = x
  framed_any Chunked ended later body content other x = x
  framed_any Close ended later body content other x = absurd (other refl)

  response_any : (bytes content : List ℕ) (ended later : Bool) → (r : IsResponseOf limit m bytes ended content) → r.framing ≢ Close → IsResponseOf limit m bytes later content
  response_any bytes content ended later r other = record {
    interim = r.interim;
    head = r.head;
    framing = r.framing;
    body = r.body;
    stands = r.stands;
    asked = r.asked;
    whole = (framed_any r.framing ended later r.body content other r.whole.0, r.whole.1);
  }

  -- the content of a whole response is what has come of it
  content_of_whole : (bytes content : List ℕ) (ended : Bool) → IsResponseOf limit m bytes ended content → HasContent limit m bytes content
  content_of_whole bytes content ended r =
      let come : HasCome m bytes r.framing r.body = record { interim = r.interim; head = r.head; stands = r.stands; asked = r.asked } in
      inl (r.framing, r.body, come, all_of_one limit m r.framing ended bytes r.body content come r)

  -- nothing is decided of bytes whose response has not ended
  undecided_or_whole : (bytes content : List ℕ) → IsUndecidedOf limit m bytes → IsResponseOf limit m bytes false content → ⊥
  undecided_or_whole bytes content u r =
      let x = content_of_whole bytes content false r in
      let same = (one_state m limit bytes content content state.More state.Whole x x u r).1 in
      let both : state.More ≡ state.Whole = same in
      cc

  undecided_or_fault : (bytes content : List ℕ) (code : Code) → HasContent limit m bytes content → IsUndecidedOf limit m bytes → IsHopelessOf limit m bytes → IsFaultOf limit m bytes code → ⊥
  undecided_or_fault bytes content code x u hopeless fault =
      let same = (one_state m limit bytes content content state.More (state.Fault code) x x u (hopeless, fault)).1 in
      let both : state.More ≡ state.Fault code = same in
      cc

  more_or_fault : (input content : List ℕ) (code : Code) → IsUndecidedOf limit m input → BeginsWithFault limit m input code content → ⊥
  more_or_fault input content code u f =
      undecided_or_fault f.front content code f.handed (undecided_front limit m f.front f.behind (subst (IsUndecidedOf limit m) f.is_prefix u)) f.hopeless f.fault

  more_or_whole : (input content left : List ℕ) (ended : Bool) → IsUndecidedOf limit m input → (b : BeginsWithResponseOf limit m input ended content left) → b.response.framing ≢ Close → ⊥
  more_or_whole input content left ended u b other =
      undecided_or_whole b.bytes content (undecided_front limit m b.bytes left (subst (IsUndecidedOf limit m) b.whole u)) (response_any b.bytes content ended false b.response other)

  whole_or_fault : (input content left other : List ℕ) (ended : Bool) (code : Code) → BeginsWithResponseOf limit m input ended content left → BeginsWithFault limit m input code other → ⊥
  whole_or_fault input content left other ended code b f = elim (cases_lt (length b.bytes) (length f.front)) [
    | inl short ↦
        let c = front_of b.bytes f.front left f.behind (sym b.whole ∙ f.is_prefix) (omega (arith, short)) in
        let some : c.0 ≢ [] = λ e. omega (arith, short, ap length c.1, length-append b.bytes c.0, ap length e) in
        let unclosed : b.response.framing ≢ Close = λ e. some (nil_from_length c.0 (omega (arith, ap length (b.ends e), ap length c.2, length-append c.0 f.behind))) in
        undecided_or_whole b.bytes content (fault_before b.bytes c.0 code some (final_of b.bytes content ended b.response) (subst (λ (t : List ℕ). IsFaultOf limit m t code) c.1 f.fault))
        (response_any b.bytes content ended false b.response unclosed)
    | inr long ↦
        let c = front_of f.front b.bytes f.behind left (sym f.is_prefix ∙ b.whole) long in
        f.hopeless c.0 content ended (subst (λ (t : List ℕ). IsResponseOf limit m t ended content) c.1 b.response)
  ]

  -- a fault without a final head is of the heads alone
  headless_first : (bytes : List ℕ) (code : Code) → (HasFinalHead bytes → ⊥) → IsFaultOf limit m bytes code → ComesFirst cause_code cause_line (Meets m) bytes code
  headless_first bytes code none (inl f) = f.1
  headless_first bytes code none (inr (inl f)) = absurd (none (f.0, f.1, [], f.2))
  headless_first bytes code none (inr (inr f)) = absurd (none (f.2.interim, f.2.head, f.1, f.2.stands))

  headless_content : (bytes content : List ℕ) → (HasFinalHead bytes → ⊥) → HasContent limit m bytes content → content ≡ []
  headless_content bytes content none (inl x) = absurd (none (x.2.interim, x.2.head, x.1, x.2.stands))
  headless_content bytes content none (inr x) = x.1

  -- two faults of one text, of which the first is in the shorter front
  fronts_agree : (a b x y : List ℕ) (c d : Code) → HasContent limit m a x → HasContent limit m (a ++ b) y → IsHopelessOf limit m a → IsHopelessOf limit m (a ++ b) → IsFaultOf limit m a c → IsFaultOf limit m (a ++ b) d
      → (c ≡ d) × (x ≡ y)
  fronts_agree a [] x y c d hx hy ha hb fa fb =
      let same = one_state m limit a x y (state.Fault c) (state.Fault d) hx (subst (λ (t : List ℕ). HasContent limit m t y) (append-nil a) hy) (ha, fa)
      (subst (IsHopelessOf limit m) (append-nil a) hb, subst (λ (t : List ℕ). IsFaultOf limit m t d) (append-nil a) fb) in
      let codes : state.Fault c ≡ state.Fault d = same.1 in
      (cc, same.0)
  fronts_agree a (z ∷ b) x y c d hx hy ha hb fa fb = by_fault fa
    where
      some : (z ∷ b) ≢ []
      some e = omega (arith, ap length e)

      headed : HasFinalHead a → (c ≡ d) × (x ≡ y)
      headed g = absurd (undecided_or_fault a x c hx (fault_before a (z ∷ b) d some g fb) ha fa)

      by_fault : IsFaultOf limit m a c → (c ≡ d) × (x ≡ y)
      by_fault (inl f) =
          let none = never_final m a (z ∷ b) c f.0 f.1 in (
            one_first cause_code cause_line (Meets m) (a ++ z ∷ b) c d (first_stays m a (z ∷ b) c f.1) (headless_first (a ++ z ∷ b) d none fb),
            headless_content a x f.0 hx ∙ sym (headless_content (a ++ z ∷ b) y none hy),
          )
      by_fault (inr (inl f)) = headed (f.0, f.1, [], f.2)
      by_fault (inr (inr f)) = headed (f.2.interim, f.2.head, f.1, f.2.stands)

  fault_or_fault : (input x y : List ℕ) (c d : Code) → BeginsWithFault limit m input c x → BeginsWithFault limit m input d y → (c ≡ d) × (x ≡ y)
  fault_or_fault input x y c d f g = elim (cases_lt (length g.front) (length f.front)) [
    | inl short ↦
        let e = front_of g.front f.front g.behind f.behind (sym g.is_prefix ∙ f.is_prefix) (omega (arith, short)) in
        let same = fronts_agree g.front e.0 y x d c g.handed (subst (λ (t : List ℕ). HasContent limit m t x) e.1 f.handed) g.hopeless (subst (IsHopelessOf limit m) e.1 f.hopeless)
        g.fault (subst (λ (t : List ℕ). IsFaultOf limit m t c) e.1 f.fault) in
        (sym same.0, sym same.1)
    | inr long ↦
        let e = front_of f.front g.front f.behind g.behind (sym f.is_prefix ∙ g.is_prefix) long in
        fronts_agree f.front e.0 x y c d f.handed (subst (λ (t : List ℕ). HasContent limit m t y) e.1 g.handed) f.hopeless (subst (IsHopelessOf limit m) e.1 g.hopeless)
        f.fault (subst (λ (t : List ℕ). IsFaultOf limit m t d) e.1 g.fault)
  ]

  -- and two whole responses
  pub record IsOneWhole (i j : Judgement) : Type 0 where
    pub len : i.len ≡ j.len
    pub keep : i.keep ≡ j.keep
    pub content : i.content ≡ j.content

  whole_or_whole : (input : List ℕ) (ended : Bool) (i j : Judgement) → HasWhole limit m input ended i → HasWhole limit m input ended j → IsOneWhole i j
  whole_or_whole input ended i j x y =
      let a = x.begins in
      let b = y.begins in
      let r = a.response in
      let s = b.response in
      let same = same_body input r.interim s.interim r.head s.head (r.body ++ x.left) (s.body ++ y.left)
      (body_stands input a.bytes x.left r.interim r.head r.body a.whole r.stands) (body_stands input b.bytes y.left s.interim s.head s.body b.whole s.stands) in
      let framing : s.framing ≡ r.framing = one_framing m s.head r.head s.framing r.framing same.1 s.asked r.asked in
      let one = one_framed limit r.framing ended ended r.body s.body x.left y.left i.content j.content r.whole.0
      (subst (λ (f : Framing). IsFramed limit f ended s.body j.content) framing s.whole.0) a.ends (λ e. b.ends (framing ∙ e)) (sym same.2) in
      record {
        len = omega (arith, x.len, y.len, ap length one.0);
        keep = x.keep ∙ (λ k. keeps_of (sym same.1 k) && not (is_close (sym framing k))) ∙ sym y.keep;
        content = one.1;
      }

  -- the states, and what is said with them
  pub record IsOne (i j : Judgement) : Type 0 where
    pub stand : i.stand ≡ j.stand
    pub len : i.len ≡ j.len
    pub keep : i.keep ≡ j.keep
    pub content : i.content ≡ j.content

  module _ (input : List ℕ) (ended : Bool) (i j : Judgement) where
    no_ends : (s t : Stand) → i.stand ≡ s → j.stand ≡ t → s ≡ t → HasNoEnd i → HasNoEnd j → i.content ≡ j.content → IsOne i j
    no_ends s t is_s is_t same a b content = record { stand = is_s ∙ same ∙ sym is_t; len = a.0 ∙ sym b.0; keep = a.1 ∙ sym b.1; content = content }

    same_content : HasContent limit m input i.content → HasContent limit m input j.content → IsUndecidedOf limit m input → i.content ≡ j.content
    same_content x y u = (one_state m limit input i.content j.content state.More state.More x y u u).0

    faults : (c d : Code) → BeginsWithFault limit m input c i.content ⊎ EndsWithFault limit m input ended c i.content
        → BeginsWithFault limit m input d j.content ⊎ EndsWithFault limit m input ended d j.content → (c ≡ d) × (i.content ≡ j.content)
    faults c d (inl f) (inl g) = fault_or_fault input i.content j.content c d f g
    faults c d (inl f) (inr g) = absurd (more_or_fault input i.content c g.undecided f)
    faults c d (inr f) (inl g) = absurd (more_or_fault input j.content d f.undecided g)
    faults c d (inr f) (inr g) = (one_end input c d f.soon g.soon, same_content f.handed g.handed f.undecided)

    -- more is to come of no response, nor of bytes with a fault
    more_is : (content other : List ℕ) (left : List ℕ) → HasMore limit m input ended content → BeginsWithResponseOf limit m input ended other left → ⊥
    more_is content other left x b =
        let open_end : IsResponseOf limit m b.bytes false other = subst (λ (e : Bool). IsResponseOf limit m b.bytes e other) x.goes_on b.response in
        undecided_or_whole b.bytes other (undecided_front limit m b.bytes left (subst (IsUndecidedOf limit m) b.whole x.undecided)) open_end

    more_fails : (content other : List ℕ) (c : Code) → HasMore limit m input ended content → BeginsWithFault limit m input c other ⊎ EndsWithFault limit m input ended c other → ⊥
    more_fails content other c x (inl f) = more_or_fault input other c x.undecided f
    more_fails content other c x (inr f) = let both : false ≡ true = sym x.goes_on ∙ f.ends in cc

    whole_fails : (content left other : List ℕ) (c : Code) → BeginsWithResponseOf limit m input ended content left → BeginsWithFault limit m input c other ⊎ EndsWithFault limit m input ended c other → ⊥
    whole_fails content left other c b (inl f) = whole_or_fault input content left other ended c b f
    whole_fails content left other c b (inr f) = elim (close_or_not b.response.framing) [
      | inl closes ↦
          let all : b.bytes ≡ input = sym (b.whole ∙ ap (λ (t : List ℕ). b.bytes ++ t) (b.ends closes) ∙ append-nil b.bytes) in
          f.none content (subst (λ (e : Bool). IsResponseOf limit m input e content) f.ends (subst (λ (t : List ℕ). IsResponseOf limit m t ended content) all b.response))
      | inr other_framing ↦ more_or_whole input content left ended f.undecided b other_framing
    ]

    by_stands : (s t : Stand) → i.stand ≡ s → j.stand ≡ t → StandsSo limit m input ended i s → StandsSo limit m input ended j t → IsOne i j
    by_stands stand.More stand.More is_s is_t x y = no_ends stand.More stand.More is_s is_t refl x.1 y.1 (same_content x.0.handed y.0.handed x.0.undecided)
    by_stands stand.More stand.Complete is_s is_t x y = absurd (more_is i.content j.content y.left x.0 y.begins)
    by_stands stand.More (stand.Fault d) is_s is_t x y = absurd (more_fails i.content j.content d x.0 y.0)
    by_stands stand.Complete stand.More is_s is_t x y = absurd (more_is j.content i.content x.left y.0 x.begins)
    by_stands stand.Complete stand.Complete is_s is_t x y =
        let one = whole_or_whole input ended i j x y in
        record { stand = is_s ∙ sym is_t; len = one.len; keep = one.keep; content = one.content }
    by_stands stand.Complete (stand.Fault d) is_s is_t x y = absurd (whole_fails i.content x.left j.content d x.begins y.0)
    by_stands (stand.Fault c) stand.More is_s is_t x y = absurd (more_fails j.content i.content c y.0 x.0)
    by_stands (stand.Fault c) stand.Complete is_s is_t x y = absurd (whole_fails j.content y.left i.content c y.begins x.0)
    by_stands (stand.Fault c) (stand.Fault d) is_s is_t x y =
        let one = faults c d x.0 y.0 in
        no_ends (stand.Fault c) (stand.Fault d) is_s is_t (ap stand.Fault one.0) x.1 y.1 one.1

held_one : (v w : Verdict) → IsSameVerdict v w → judgement_of v ≡ judgement_of w
held_one (verdict.Complete status len parts keep) (verdict.Complete status' len' parts' keep') x = λ k. record { stand = stand.Complete; parts = x.2 k; len = x.1 k; keep = x.3 k; content = [] }
held_one (verdict.Complete status len parts keep) verdict.More x = absurd x
held_one (verdict.Complete status len parts keep) (verdict.Fault d) x = absurd x
held_one verdict.More (verdict.Complete status len parts keep) x = absurd x
held_one verdict.More verdict.More x = refl
held_one verdict.More (verdict.Fault d) x = absurd x
held_one (verdict.Fault c) (verdict.Complete status len parts keep) x = absurd x
held_one (verdict.Fault c) verdict.More x = absurd x
held_one (verdict.Fault c) (verdict.Fault d) x = ap (λ (k : Code). judgement_of (verdict.Fault k)) x

pub one_judgement : HasOneJudgement
one_judgement None m input ended i j a b = a.2 ∙ held_one a.0 b.0 (one_verdict m input ended a.0 b.0 a.1 b.1) ∙ sym b.2
one_judgement (Some limit) m input ended i j a b =
    let one = by_stands limit m input ended i j i.stand j.stand refl refl a.1 b.1 in
    let parts : i.parts ≡ j.parts = a.0 ∙ sym b.0 in
    λ k. record { stand = one.stand k; parts = parts k; len = one.len k; keep = one.keep k; content = one.content k }
