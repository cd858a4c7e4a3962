-- The causes that prefixes of an input meet, by what follows its interim heads.
use Rattle.std.proofs.Common.{◌≡◌, ◌≢◌, ℕ, ◌+◌, ◌<◌, ◌≤◌, ◌⊎◌, inl, inr, Bool, List, [], ◌∷◌, ◌++◌, length, drop, ◌-◌, slice_range, refl, sym, ap, subst, ◌∙◌, arith, append_assoc, length-append, length-drop, Result, Ok}
use Rattle.std.proofs.lemmas.List.{append-nil, take_all}
use Rattle.std.proofs.lemmas.List.Elements.{All-cons, All-nil, All-append}
use Rattle.httparse.specs.Grammar.{ResponseHead, print_response, status_code}
use Rattle.mx_types.specs.declared.code.Code.{Code}
use Rattle.mx_types.specs.declared.code.Code.TheVariants.{WeirdServerReply}
use Rattle.mx_types.specs.declared.method.Method.{Method}
use Rattle.mx_head.specs.declared.types.Framing.{Framing}
use Rattle.mx_head.specs.declared.types.Framing.TheVariants.{Close}
use Rattle.mx_head.specs.Framing.{framing_of}
use Rattle.mx_head.specs.Heads.{IsHead, HasNoHead}
use Rattle.mx_head.specs.Limits.{most_bytes, most_interim}
use Rattle.mx_head.specs.Summary.{Summary, Describes}
use Rattle.mx_head.specs.Faults.{HeadCause, head_code, head_line, MeetsAtHead, ComesFirst, MeetsNothing}
use Rattle.mx_head.proofs.FaultLemmas.{head_meets_nothing}
use Rattle.mx_body.specs.declared.part.Part.{Part}
use Rattle.mx_body.specs.Response.{IsInterimStatus, IsInterim, print_heads, StandsAtHead, StandsAtBody, IsBody, Response, heads_of}
use Rattle.mx_body.specs.Causes.{BodyCause, Cause, at_head, refused_status, at_body, body_code, body_line, cause_code, cause_line, IsRefused, MeetsAtBody, Meets}
use Rattle.mx_body.specs.Decision.{BeginsWithResponse, IsNoResponse, HasFinalHead}
use Rattle.mx_body.specs.Steps.{IsBehind, HasHeadAt}
use Rattle.mx_body.proofs.HeadsLemmas.{same_head, print_heads-append, head_stands, body_stands, Stops, none_stops, final_stops, refused_stops, stand_there, earlier_meets, earlier_refused, earlier_final, same_body, body_start_small, body_start_within}

-- the offset after the final head
abbrev pub body_start : List ResponseHead → ResponseHead → ℕ
body_start hs h = length (print_heads hs ++ print_response h)

-- ---- where no head follows the interim heads

-- what a prefix meets there: a cause of the next head alone
pub record MeetsNext (hs : List ResponseHead) (rest q more : List ℕ) (cause : Cause) : Type 0 where
  pub here : HeadCause
  pub part : List ℕ
  pub cause_is : cause ≡ at_head here
  pub stands : StandsAtHead q hs part
  pub splits : rest ≡ part ++ more
  pub meets : MeetsAtHead part here

next_from : (text : List ℕ) (hs : List ResponseHead) (rest : List ℕ) → StandsAtHead text hs rest → Stops hs rest
    → (q more : List ℕ) (here : HeadCause) (ks : List ResponseHead) (r : List ℕ) → text ≡ q ++ more → StandsAtHead q ks r → MeetsAtHead r here → MeetsNext hs rest q more (at_head here)
next_from text hs rest s stops q more here ks r e t x =
    elim (stand_there text hs ks rest (r ++ more) s stops (head_stands text q more ks r e t)) [
      | inl both ↦ record {
        here = here;
        part = r;
        cause_is = refl;
        stands = subst (λ (l : List ResponseHead). StandsAtHead q l r) both.0 t;
        splits = sym both.1;
        meets = x;
      }
      | inr earlier ↦ absurd (earlier_meets earlier r more here refl x)
    ]

pub headless_meets : (m : Method) (text : List ℕ) (hs : List ResponseHead) (rest : List ℕ) → StandsAtHead text hs rest → HasNoHead rest
    → (q more : List ℕ) (cause : Cause) → text ≡ q ++ more → Meets m q cause → MeetsNext hs rest q more cause
headless_meets m text hs rest s none q more (at_head here) e x = next_from text hs rest s (none_stops hs rest none) q more here x.0 x.1 e x.2 x.3
headless_meets m text hs rest s none q more refused_status e x =
    elim (stand_there text hs x.0 rest (print_response x.1 ++ more) s (none_stops hs rest none) (head_stands text q more x.0 (print_response x.1) e x.2)) [
      | inl both ↦ absurd (none x.1 more (x.3.head, sym both.1))
      | inr earlier ↦ absurd (earlier_refused earlier s.0 x.1 more refl x.3)
    ]
headless_meets m text hs rest s none q more (at_body cause) e x =
    let t = body_stands text q more x.0 x.1 x.2 e x.3 in
    elim (stand_there text hs x.0 rest (print_response x.1 ++ (x.2 ++ more)) s (none_stops hs rest none) t.1) [
      | inl both ↦ absurd (none x.1 (x.2 ++ more) (x.3.0.head, sym both.1))
      | inr earlier ↦ absurd (earlier_final earlier x.1 (x.2 ++ more) refl x.3.0)
    ]

pub headless_final : (text : List ℕ) (hs : List ResponseHead) (rest : List ℕ) → StandsAtHead text hs rest → HasNoHead rest → HasFinalHead text → ⊥
headless_final text hs rest s none final =
    elim (stand_there text hs final.0 rest (print_response final.1 ++ final.2) s (none_stops hs rest none) final.3.1) [
      | inl both ↦ none final.1 final.2 (final.3.0.head, sym both.1)
      | inr earlier ↦ earlier_final earlier final.1 final.2 refl final.3.0
    ]

-- the first cause of the next head is the first of all
pub headless_first : (m : Method) (text : List ℕ) (hs : List ResponseHead) (rest : List ℕ) (code : Code) → StandsAtHead text hs rest → HasNoHead rest
    → ComesFirst head_code head_line MeetsAtHead rest code → ComesFirst cause_code cause_line (Meets m) text code
headless_first m text hs rest code s none f = record {
  front = print_heads hs ++ f.front;
  after = f.after;
  is_prefix = s.1 ∙ ap (λ (t : List ℕ). print_heads hs ++ t) f.is_prefix ∙ sym (append_assoc (print_heads hs) f.front f.after);
  cause = at_head f.cause;
  meets = (hs, f.front, (s.0, refl), f.meets);
  code_is = f.code_is;
  first = λ q more other e x ne le.
      let n = headless_meets m text hs rest s none q more other e x in
      let long = ap length n.stands.1 in
      let one = f.first n.part more n.here n.splits n.meets (λ same. ne (ap cause_code n.cause_is ∙ same))
      (omega (arith, le, long, length-append (print_heads hs) n.part, length-append (print_heads hs) f.front)) in (
        omega (arith, one.0, long, length-append (print_heads hs) n.part, length-append (print_heads hs) f.front),
        subst (λ (c : Cause). head_line f.cause < cause_line c) (sym n.cause_is) one.1,
      );
}

pub headless_nothing : (m : Method) (text : List ℕ) (hs : List ResponseHead) (rest : List ℕ) → StandsAtHead text hs rest → HasNoHead rest
    → MeetsNothing MeetsAtHead rest → MeetsNothing (Meets m) text
headless_nothing m text hs rest s none clear q more other e x =
    let n = headless_meets m text hs rest s none q more other e x in
    clear n.part more n.here n.splits n.meets

-- ---- where a refused head follows the interim heads

-- no final head is there
pub same_refused : (text : List ℕ) (hs : List ResponseHead) (h : ResponseHead) (after : List ℕ) → StandsAtHead text hs (print_response h ++ after) → IsRefused hs h
    → (ks : List ResponseHead) (k : ResponseHead) (r : List ℕ) → StandsAtBody text ks k r → ⊥
same_refused text hs h after s refused ks k r t =
    elim (stand_there text hs ks (print_response h ++ after) (print_response k ++ r) s (refused_stops hs h (print_response h ++ after) after refl refused) t.1) [
      | inl both ↦
          let same = same_head h k after r refused.head t.0.head (sym both.1) in
          t.0.status (elim refused.refused [
            | inl leaves ↦ is_101 (status_code k) (ap status_code (sym same.0) ∙ leaves)
            | inr over ↦ subst (λ (g : ResponseHead). IsInterimStatus (status_code g)) same.0 over.1
          ])
      | inr earlier ↦ earlier_final earlier k r refl t.0
    ]
  where
    is_101 : (n : ℕ) → n ≡ 101 → IsInterimStatus n
    is_101 n e = (omega (arith, e), omega (arith, e))

refused_code : (m : Method) (text : List ℕ) (hs : List ResponseHead) (h : ResponseHead) (after : List ℕ) → StandsAtHead text hs (print_response h ++ after) → IsRefused hs h
    → (q more : List ℕ) (cause : Cause) → text ≡ q ++ more → Meets m q cause → cause_code cause ≡ WeirdServerReply
refused_code m text hs h after s refused q more (at_head here) e x =
    let n = next_from text hs (print_response h ++ after) s (refused_stops hs h (print_response h ++ after) after refl refused) q more here x.0 x.1 e x.2 x.3 in
    absurd (head_meets_nothing (print_response h ++ after) h after (refused.head, refl) n.part more n.here n.splits n.meets)
refused_code m text hs h after s refused q more refused_status e x = refl
refused_code m text hs h after s refused q more (at_body cause) e x =
    let t = body_stands text q more x.0 x.1 x.2 e x.3 in
    let same = same_refused text hs h after s refused x.0 x.1 (x.2 ++ more) t in
    absurd same

pub refused_first : (m : Method) (text : List ℕ) (hs : List ResponseHead) (h : ResponseHead) (after : List ℕ) → StandsAtHead text hs (print_response h ++ after) → IsRefused hs h
    → ComesFirst cause_code cause_line (Meets m) text WeirdServerReply
refused_first m text hs h after s refused = record {
  front = print_heads hs ++ print_response h;
  after = after;
  is_prefix = s.1 ∙ sym (append_assoc (print_heads hs) (print_response h) after);
  cause = refused_status;
  meets = (hs, h, (s.0, refl), refused);
  code_is = refl;
  first = λ q more other e x ne le. absurd (ne (refused_code m text hs h after s refused q more other e x));
}

-- ---- where the final head follows the interim heads

-- what a prefix meets there: a cause of the body alone
pub record MeetsBehind (asked : Result Framing Code) (at : ℕ) (hs : List ResponseHead) (h : ResponseHead) (rest q more : List ℕ) (cause : Cause) : Type 0 where
  pub here : BodyCause
  pub part : List ℕ
  pub cause_is : cause ≡ at_body here
  pub stands : StandsAtBody q hs h part
  pub splits : rest ≡ part ++ more
  pub meets : MeetsAtBody asked at part here

pub body_meets : (m : Method) (text : List ℕ) (hs : List ResponseHead) (h : ResponseHead) (rest : List ℕ) → StandsAtBody text hs h rest
    → (q more : List ℕ) (cause : Cause) → text ≡ q ++ more → Meets m q cause → MeetsBehind (framing_of m h) (body_start hs h) hs h rest q more cause
body_meets m text hs h rest s q more (at_head here) e x =
    let n = next_from text hs (print_response h ++ rest) s.1 (final_stops hs h (print_response h ++ rest) rest refl s.0) q more here x.0 x.1 e x.2 x.3 in
    absurd (head_meets_nothing (print_response h ++ rest) h rest (s.0.head, refl) n.part more n.here n.splits n.meets)
body_meets m text hs h rest s q more refused_status e x =
    absurd (same_refused text x.0 x.1 more (head_stands text q more x.0 (print_response x.1) e x.2) x.3 hs h rest s)
body_meets m text hs h rest s q more (at_body cause) e x =
    let same = same_body text hs x.0 h x.1 rest (x.2 ++ more) s (body_stands text q more x.0 x.1 x.2 e x.3) in
    record {
      here = cause;
      part = x.2;
      cause_is = refl;
      stands = subst (λ (p : List ResponseHead × ResponseHead). StandsAtBody q p.0 p.1 x.2) (λ i. (same.0 i, same.1 i)) x.3;
      splits = sym same.2;
      meets = subst (λ (p : List ResponseHead × ResponseHead). MeetsAtBody (framing_of m p.1) (body_start p.0 p.1) x.2 cause) (λ i. (same.0 i, same.1 i)) x.4;
    }

-- the first cause of the body is the first of all
pub body_first : (m : Method) (text : List ℕ) (hs : List ResponseHead) (h : ResponseHead) (rest : List ℕ) (code : Code) → StandsAtBody text hs h rest
    → ComesFirst body_code body_line (MeetsAtBody (framing_of m h) (body_start hs h)) rest code → ComesFirst cause_code cause_line (Meets m) text code
body_first m text hs h rest code s f = record {
  front = print_heads hs ++ (print_response h ++ f.front);
  after = f.after;
  is_prefix = s.1.1 ∙ ap (λ (t : List ℕ). print_heads hs ++ (print_response h ++ t)) f.is_prefix ∙ regroup (print_heads hs) (print_response h) f.front f.after;
  cause = at_body f.cause;
  meets = (hs, h, f.front, (s.0, (s.1.0, refl)), f.meets);
  code_is = f.code_is;
  first = λ q more other e x ne le.
      let n = body_meets m text hs h rest s q more other e x in
      let long = ap length n.stands.1.1 in
      let one = f.first n.part more n.here n.splits n.meets (λ same. ne (ap cause_code n.cause_is ∙ same))
      (omega (arith, le, long, lengths (print_heads hs) (print_response h) n.part, lengths (print_heads hs) (print_response h) f.front)) in (
        omega (arith, one.0, long, lengths (print_heads hs) (print_response h) n.part, lengths (print_heads hs) (print_response h) f.front),
        subst (λ (c : Cause). body_line f.cause < cause_line c) (sym n.cause_is) one.1,
      );
}
  where
    regroup : (a b c d : List ℕ) → a ++ (b ++ (c ++ d)) ≡ (a ++ (b ++ c)) ++ d
    regroup a b c d = simp append_assoc

    lengths : (a b c : List ℕ) → length (a ++ (b ++ c)) ≡ length a + (length b + length c)
    lengths a b c = omega (arith, length-append a (b ++ c), length-append b c)

pub body_nothing : (m : Method) (text : List ℕ) (hs : List ResponseHead) (h : ResponseHead) (rest : List ℕ) → StandsAtBody text hs h rest
    → MeetsNothing (MeetsAtBody (framing_of m h) (body_start hs h)) rest → MeetsNothing (Meets m) text
body_nothing m text hs h rest s clear q more other e x =
    let n = body_meets m text hs h rest s q more other e x in
    clear n.part more n.here n.splits n.meets

-- ---- the response itself

-- the bytes after the heads are a body of that framing, and then left
pub record BeginsWithBody (asked : Result Framing Code) (at : ℕ) (rest : List ℕ) (ended : Bool) (framing : Framing) (body : List ℕ) (parts : List Part) (content left : List ℕ) : Type 0 where
  pub splits : rest ≡ body ++ left
  pub fits : at + length body ≤ most_bytes
  pub is_asked : asked ≡ Ok framing
  pub is : IsBody framing ended at body parts content
  pub ends : framing ≡ Close → left ≡ []

pub response_body : (m : Method) (text : List ℕ) (ended : Bool) (hs : List ResponseHead) (h : ResponseHead) (rest : List ℕ) → StandsAtBody text hs h rest
    → (r : Response) (left : List ℕ) → BeginsWithResponse m text ended r left
    → (r.interim ≡ hs) × (r.head ≡ h) × BeginsWithBody (framing_of m h) (body_start hs h) rest ended r.framing r.body r.parts r.content left
response_body m text ended hs h rest s r left b =
    let t = b.response.stands in
    let same = same_body text hs r.interim h r.head rest (r.body ++ left) s (body_stands text b.bytes left r.interim r.head r.body b.whole t) in
    let long = ap length t.1.1 in
    let long_heads : length (heads_of r) ≡ body_start hs h = λ i. body_start (same.0 i) (same.1 i) in (
      same.0,
      same.1,
      record {
        splits = sym same.2;
        fits = omega (
          arith,
          b.response.fits,
          long,
          long_heads,
          length-append (print_heads r.interim) (print_response r.head),
          length-append (print_heads r.interim) (print_response r.head ++ r.body),
          length-append (print_response r.head) r.body,
        );
        is_asked = sym (ap (framing_of m) same.1) ∙ b.response.asked;
        is = subst (λ (n : ℕ). IsBody r.framing ended n r.body r.parts r.content) long_heads b.response.body;
        ends = b.ends;
      },
    )

pub body_response : (m : Method) (text : List ℕ) (ended : Bool) (hs : List ResponseHead) (h : ResponseHead) (rest : List ℕ) → StandsAtBody text hs h rest
    → (framing : Framing) (body : List ℕ) (parts : List Part) (content left : List ℕ)
    → BeginsWithBody (framing_of m h) (body_start hs h) rest ended framing body parts content left
    → BeginsWithResponse m text ended (record { interim = hs; head = h; framing = framing; body = body; parts = parts; content = content }) left
body_response m text ended hs h rest s framing body parts content left b = record {
  bytes = print_heads hs ++ (print_response h ++ body);
  whole = s.1.1 ∙ ap (λ (t : List ℕ). print_heads hs ++ (print_response h ++ t)) b.splits ∙ regroup (print_heads hs) (print_response h) body left;
  response = record {
    stands = (s.0, (s.1.0, refl));
    fits = omega (arith, b.fits, length-append (print_heads hs) (print_response h), length-append (print_heads hs) (print_response h ++ body), length-append (print_response h) body);
    asked = b.is_asked;
    body = b.is;
  };
  ends = b.ends;
}
  where
    regroup : (a b c d : List ℕ) → a ++ (b ++ (c ++ d)) ≡ (a ++ (b ++ c)) ++ d
    regroup a b c d = simp append_assoc

-- without a final head there is no response
pub headless_no_response : (m : Method) (text : List ℕ) (ended : Bool) → (HasFinalHead text → ⊥) → IsNoResponse m text ended
headless_no_response m text ended none r left b =
    none (r.interim, r.head, r.body ++ left, body_stands text b.bytes left r.interim r.head r.body b.whole b.response.stands)

-- ---- the result of one more head

-- what the code reads there
abbrev pub tail_from : ℕ → List ℕ → List ℕ
tail_from start text = slice_range text start (length text)

pub behind_reads : (text : List ℕ) (start passed : ℕ) → (b : IsBehind text start passed) → tail_from start text ≡ b.rest
behind_reads text start passed b =
    take_all (length text - start) (drop start text) (omega (arith, length-drop start text))
    ∙ ap (λ (t : List ℕ). drop start t) b.stands.1
    ∙ ap (λ (n : ℕ). drop n (print_heads b.interim ++ b.rest)) b.start_is ∙ drop_front (print_heads b.interim) b.rest
  where
    drop_front : (a c : List ℕ) → drop (length a) (a ++ c) ≡ c
    drop_front [] c = refl
    drop_front (z ∷ a) c = drop_front a c

pub fault_next : (text : List ℕ) (start passed : ℕ) (code : Code) → (b : IsBehind text start passed) → HasNoHead (tail_from start text) × ComesFirst head_code head_line MeetsAtHead (tail_from start text) code
    → (HasFinalHead text → ⊥) × ((m : Method) → ComesFirst cause_code cause_line (Meets m) text code)
fault_next text start passed code b x =
    let y = subst (λ (t : List ℕ). HasNoHead t × ComesFirst head_code head_line MeetsAtHead t code) (behind_reads text start passed b) x in
    (headless_final text b.interim b.rest b.stands y.0, λ m. headless_first m text b.interim b.rest code b.stands y.0 y.1)

pub more_next : (text : List ℕ) (start passed : ℕ) → (b : IsBehind text start passed) → HasNoHead (tail_from start text) × MeetsNothing MeetsAtHead (tail_from start text)
    → (HasFinalHead text → ⊥) × ((m : Method) → MeetsNothing (Meets m) text)
more_next text start passed b x =
    let y = subst (λ (t : List ℕ). HasNoHead t × MeetsNothing MeetsAtHead t) (behind_reads text start passed b) x in
    (headless_final text b.interim b.rest b.stands y.0, λ m. headless_nothing m text b.interim b.rest b.stands y.0 y.1)

-- a head after the interim heads that have passed
pub head_next : (text : List ℕ) (start passed : ℕ) (h : ResponseHead) (rest : List ℕ) → (b : IsBehind text start passed) → tail_from start text ≡ print_response h ++ rest
    → StandsAtHead text b.interim (print_response h ++ rest)
head_next text start passed h rest b e =
    (b.stands.0, b.stands.1 ∙ ap (λ (t : List ℕ). print_heads b.interim ++ t) (sym (behind_reads text start passed b) ∙ e))

pub refused_next : (text : List ℕ) (start passed : ℕ) (h : ResponseHead) (rest : List ℕ) → (b : IsBehind text start passed) → IsHead h → tail_from start text ≡ print_response h ++ rest
    → IsInterimStatus (status_code h) → (status_code h ≡ 101) ⊎ (passed ≡ most_interim)
    → (HasFinalHead text → ⊥) × ((m : Method) → ComesFirst cause_code cause_line (Meets m) text WeirdServerReply)
refused_next text start passed h rest b head e interim why =
    let s = head_next text start passed h rest b e in
    let refused : IsRefused b.interim h = record {
      head = head;
      refused = elim why [
        | inl leaves ↦ inl leaves
        | inr all ↦ inr (sym b.passed_is ∙ all, interim)
      ];
    } in (
      λ final. same_refused text b.interim h rest s refused final.0 final.1 final.2 final.3,
      λ m. refused_first m text b.interim h rest s refused,
    )

pub final_next : (text : List ℕ) (start passed : ℕ) (x : Summary) (end : ℕ) (h : ResponseHead) (rest : List ℕ) → (b : IsBehind text start passed) → IsHead h → tail_from start text ≡ print_response h ++ rest
    → (IsInterimStatus (status_code h) → ⊥) → Describes x h → end ≡ start + length (print_response h) → HasHeadAt text x end
final_next text start passed x end h rest b head e final describes ends =
    let stands : StandsAtBody text b.interim h rest = (record { head = head; status = final }, head_next text start passed h rest b e) in
    let end_is : end ≡ body_start b.interim h = omega (arith, ends, b.start_is, length-append (print_heads b.interim) (print_response h)) in
    record {
      interim = b.interim;
      head = h;
      rest = rest;
      stands = stands;
      describes = describes;
      end_is = end_is;
      within = omega (arith, end_is, body_start_within text b.interim h rest stands);
      small = omega (arith, end_is, body_start_small text b.interim h rest stands);
    }

pub passed_next : (text : List ℕ) (start passed end : ℕ) (h : ResponseHead) (rest : List ℕ) → (b : IsBehind text start passed) → IsHead h → tail_from start text ≡ print_response h ++ rest
    → IsInterimStatus (status_code h) → status_code h ≢ 101 → passed ≢ most_interim → end ≡ start + length (print_response h) → IsBehind text end (passed + 1)
passed_next text start passed end h rest b head e interim stays few ends =
    let s = head_next text start passed h rest b e in
    let all : print_heads (b.interim ++ h ∷ []) ≡ print_heads b.interim ++ print_response h = print_heads-append b.interim (h ∷ []) ∙ ap (λ (t : List ℕ). print_heads b.interim ++ t) (append-nil (print_response h)) in
    record {
      interim = b.interim ++ h ∷ [];
      rest = rest;
      stands = (
        record {
          each = All-append IsInterim b.interim (h ∷ []) s.0.each (All-cons IsInterim h [] (record { head = head; status = interim; stays = stays }) (All-nil IsInterim));
          few = omega (arith, s.0.few, few, b.passed_is, length-append b.interim (h ∷ []));
        },
        s.1 ∙ sym (append_assoc (print_heads b.interim) (print_response h) rest) ∙ ap (λ (t : List ℕ). t ++ rest) (sym all),
      );
      start_is = omega (arith, ends, b.start_is, ap length all, length-append (print_heads b.interim) (print_response h));
      passed_is = omega (arith, b.passed_is, length-append b.interim (h ∷ []));
    }
