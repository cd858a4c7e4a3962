-- The verdict on an input that has a final head, by its framing.
use Rattle.std.proofs.Common.{◌≡◌, ℕ, ◌+◌, ◌<◌, ◌≤◌, inl, inr, Bool, true, false, cond, not, ◌&&◌, List, [], ◌∷◌, ◌++◌, length, take, drop, refl, sym, ap, subst, ◌∙◌, arith, length-append, length-take, Result, Ok, Err, IfOk, OnErr}
use Rattle.std.specs.Prelude.{◌==◌, codes, filter}
use Rattle.std.specs.List.{list_all}
use Rattle.std.specs.Str.Parse.{digits_value}
use Rattle.std.proofs.lemmas.List.{append-nil, take-append-drop}
use Rattle.std.proofs.lemmas.Bool.Decides.{nat_tests}
use Rattle.httparse.specs.Grammar.{ResponseHead, print_response, status_code}
use Rattle.mx_types.specs.declared.code.Code.{Code}
use Rattle.mx_types.specs.declared.code.Code.TheVariants.{WeirdServerReply, BadContentEncoding, FilesizeExceeded}
use Rattle.mx_types.specs.declared.method.Method.{Method}
use Rattle.mx_head.specs.declared.types.Framing.{Framing}
use Rattle.mx_head.specs.declared.types.Framing.TheVariants.{Empty, Counted, Chunked, Close}
use Rattle.mx_head.specs.Fields.{elements, lines_of}
use Rattle.mx_head.specs.Framing.{has_no_body, by_length, by_fields, framing_of, keeps_of, is_number, is_number_of, is_chunked_alone, is_blank, chunked_framing}
use Rattle.mx_head.specs.Limits.{most_bytes}
use Rattle.mx_head.specs.Faults.{ComesFirst, MeetsNothing}
use Rattle.mx_body.specs.declared.part.Part.{Part}
use Rattle.mx_body.specs.declared.verdict.Verdict.{Verdict}
use Rattle.mx_body.specs.declared.verdict.Verdict.TheVariants as verdict
use Rattle.mx_body.specs.Response.{print_heads, StandsAtBody, IsBody, one_part}
use Rattle.mx_body.specs.Causes.{BodyCause, bad_framing, unknown_coding, too_big, bad_chunk, body_code, body_line, MeetsAtBody}
use Rattle.mx_body.specs.Decision.{first_bytes, IsUndecided, is_close, IsVerdict, BeginsWithParts}
use Rattle.mx_body.specs.Steps.{IsWholeAt}
use Rattle.mx_body.proofs.MeetsLemmas.{body_start, body_first, body_nothing, BeginsWithBody, response_body, body_response}
use Rattle.mx_body.proofs.HeadsLemmas.{body_start_small}
use Rattle.mx_body.proofs.FirstBytesLemmas.{first_body}

-- what a final head asks for
pub data FramingKind : Result Framing Code → Type 0 where
  is_empty : FramingKind (Ok Empty)
  is_counted : (n : ℕ) → FramingKind (Ok (Counted n))
  is_chunked : FramingKind (Ok Chunked)
  is_open : FramingKind (Ok Close)
  is_weird : FramingKind (Err WeirdServerReply)
  is_coded : FramingKind (Err BadContentEncoding)

length_kind : (t : Bool) (n : ℕ) → FramingKind (cond t (Ok (Counted n)) (Err WeirdServerReply))
length_kind true n = is_counted n
length_kind false n = is_weird

by_length_kind : (ls : List (List ℕ)) → FramingKind (by_length ls)
by_length_kind [] = is_open
by_length_kind (e ∷ es) = length_kind (is_number e && list_all (is_number_of (digits_value 10 e)) es) _

coded_kind : (t u : Bool) → FramingKind (cond t (Err WeirdServerReply) (cond u chunked_framing (Err BadContentEncoding)))
coded_kind true u = is_weird
coded_kind false true = is_chunked
coded_kind false false = is_coded

by_fields_kind : (minor : ℕ) (cs ls : List (List ℕ)) → FramingKind (by_fields minor cs ls)
by_fields_kind minor [] ls = by_length_kind ls
by_fields_kind minor (c ∷ cs) ls = coded_kind (minor == 0) (is_chunked_alone (filter (λ e. not (is_blank e)) (c ∷ cs)))

pub framing_kind : (m : Method) (h : ResponseHead) → FramingKind (framing_of m h)
unfolding framing_of
framing_kind m h = by_body (has_no_body m (status_code h))
  where
    by_body : (t : Bool) → FramingKind (cond t (Ok Empty) (by_fields h.minor (elements (codes "transfer-encoding") (lines_of h)) (elements (codes "content-length") (lines_of h))))
    by_body true = is_empty
    by_body false = by_fields_kind h.minor (elements (codes "transfer-encoding") (lines_of h)) (elements (codes "content-length") (lines_of h))

-- ---- what the bytes after the final head decide

pub body_fault : (m : Method) (input : List ℕ) (ended : Bool) (hs : List ResponseHead) (h : ResponseHead) (rest : List ℕ) (asked : Result Framing Code) (code : Code)
    → (s : StandsAtBody input hs h rest) → framing_of m h ≡ asked
    → ((framing : Framing) (body : List ℕ) (parts : List Part) (content left : List ℕ) → BeginsWithBody asked (body_start hs h) rest ended framing body parts content left → ⊥)
    → ComesFirst body_code body_line (MeetsAtBody asked (body_start hs h)) (first_body input hs h rest s).seen code
    → IsVerdict m input ended (verdict.Fault code)
body_fault m input ended hs h rest asked code s f none first =
    let b = first_body input hs h rest s in (
      λ r left x.
          let here = response_body m input ended hs h rest s r left x in
          none r.framing r.body r.parts r.content left
          (subst (λ (a : Result Framing Code). BeginsWithBody a (body_start hs h) rest ended r.framing r.body r.parts r.content left) f here.2),
      inl (body_first m (first_bytes input) hs h b.seen code b.stands
          (subst (λ (a : Result Framing Code). ComesFirst body_code body_line (MeetsAtBody a (body_start hs h)) b.seen code) (sym f) first)),
    )

pub body_undecided : (m : Method) (input : List ℕ) (ended : Bool) (hs : List ResponseHead) (h : ResponseHead) (rest : List ℕ) (asked : Result Framing Code)
    → (s : StandsAtBody input hs h rest) → framing_of m h ≡ asked
    → ((framing : Framing) (body : List ℕ) (parts : List Part) (content left : List ℕ) → BeginsWithBody asked (body_start hs h) rest ended framing body parts content left → ⊥)
    → MeetsNothing (MeetsAtBody asked (body_start hs h)) (first_body input hs h rest s).seen
    → IsUndecided m input ended
body_undecided m input ended hs h rest asked s f none clear =
    let b = first_body input hs h rest s in
    record {
      unfinished = λ r left x.
          let here = response_body m input ended hs h rest s r left x in
          none r.framing r.body r.parts r.content left
          (subst (λ (a : Result Framing Code). BeginsWithBody a (body_start hs h) rest ended r.framing r.body r.parts r.content left) f here.2);
      faultless = body_nothing m (first_bytes input) hs h b.seen b.stands
          (subst (λ (a : Result Framing Code). MeetsNothing (MeetsAtBody a (body_start hs h)) b.seen) (sym f) clear);
    }

-- a cause at the very front of the bytes comes first, where all others have its code
front_first : (asked : Result Framing Code) (at : ℕ) (bytes : List ℕ) (cause : BodyCause) → MeetsAtBody asked at [] cause
    → ((q : List ℕ) (other : BodyCause) → MeetsAtBody asked at q other → body_code other ≡ body_code cause)
    → ComesFirst body_code body_line (MeetsAtBody asked at) bytes (body_code cause)
front_first asked at bytes cause meets all = record {
  front = [];
  after = bytes;
  is_prefix = refl;
  cause = cause;
  meets = meets;
  code_is = refl;
  first = λ q more other e x ne le. absurd (ne (all q other x));
}

-- a framing that is refused
pub refused_framing : (m : Method) (input : List ℕ) (ended : Bool) (hs : List ResponseHead) (h : ResponseHead) (rest : List ℕ) (code : Code)
    → StandsAtBody input hs h rest → framing_of m h ≡ Err code → IsVerdict m input ended (verdict.Fault code)
refused_framing m input ended hs h rest code s f = by_kind (framing_of m h) (framing_kind m h) refl f
  where
    all_same : (code : Code) (at : ℕ) (q : List ℕ) (other : BodyCause) → MeetsAtBody (Err code) at q other → body_code other ≡ code
    all_same code at q bad_framing x = let e : Err code ≡ Err WeirdServerReply = x.1 in cc
    all_same code at q unknown_coding x = let e : Err code ≡ Err BadContentEncoding = x.1 in cc
    all_same code at q too_big x = elim x [
      | inl counts ↦ (let e : Err code ≡ Ok (Counted counts.1.0) = counts.1.1 in absurd (cc))
      | inr chunked ↦ (let e : Err code ≡ Ok Chunked = chunked.0 in absurd (cc))
    ]
    all_same code at q bad_chunk x = let e : Err code ≡ Ok Chunked = x.0 in absurd (cc)

    none_begins : (code : Code) (at : ℕ) (framing : Framing) (body : List ℕ) (parts : List Part) (content left : List ℕ) → BeginsWithBody (Err code) at rest ended framing body parts content left → ⊥
    none_begins code at framing body parts content left b = let e : Err code ≡ Ok framing = b.is_asked in cc

    by_kind : (r : Result Framing Code) → FramingKind r → framing_of m h ≡ r → r ≡ Err code → IsVerdict m input ended (verdict.Fault code)
    by_kind r is_empty e x = absurd (cc)
    by_kind r (is_counted n) e x = absurd (cc)
    by_kind r is_chunked e x = absurd (cc)
    by_kind r is_open e x = absurd (cc)
    by_kind r is_weird e x =
        let same : WeirdServerReply ≡ code = cc in
        subst (λ (c : Code). IsVerdict m input ended (verdict.Fault c)) same
        (body_fault m input ended hs h rest (Err WeirdServerReply) WeirdServerReply s e (none_begins WeirdServerReply (body_start hs h))
        (front_first (Err WeirdServerReply) (body_start hs h) (first_body input hs h rest s).seen bad_framing (refl, refl) (λ q other y. all_same WeirdServerReply (body_start hs h) q other y)))
    by_kind r is_coded e x =
        let same : BadContentEncoding ≡ code = cc in
        subst (λ (c : Code). IsVerdict m input ended (verdict.Fault c)) same
        (body_fault m input ended hs h rest (Err BadContentEncoding) BadContentEncoding s e (none_begins BadContentEncoding (body_start hs h))
        (front_first (Err BadContentEncoding) (body_start hs h) (first_body input hs h rest s).seen unknown_coding (refl, refl) (λ q other y. all_same BadContentEncoding (body_start hs h) q other y)))

-- ---- a counted body

counted_meets : (n at : ℕ) (q : List ℕ) (other : BodyCause) → MeetsAtBody (Ok (Counted n)) at q other → (body_code other ≡ FilesizeExceeded) × (most_bytes < at + n)
counted_meets n at q bad_framing x = let e : Ok (Counted n) ≡ Err WeirdServerReply = x.1 in absurd (cc)
counted_meets n at q unknown_coding x = let e : Ok (Counted n) ≡ Err BadContentEncoding = x.1 in absurd (cc)
counted_meets n at q too_big x = elim x [
  | inl counts ↦ (refl, (let e : Ok (Counted n) ≡ Ok (Counted counts.1.0) = counts.1.1 in let same : n ≡ counts.1.0 = cc in omega (arith, same, counts.1.2)))
  | inr chunked ↦ (let e : Ok (Counted n) ≡ Ok Chunked = chunked.0 in absurd (cc))
]
counted_meets n at q bad_chunk x = let e : Ok (Counted n) ≡ Ok Chunked = x.0 in absurd (cc)

counted_fits : (n at : ℕ) (rest : List ℕ) (ended : Bool) (framing : Framing) (body : List ℕ) (parts : List Part) (content left : List ℕ)
    → BeginsWithBody (Ok (Counted n)) at rest ended framing body parts content left → (at + n ≤ most_bytes) × (n ≤ length rest)
counted_fits n at rest ended framing body parts content left b =
    let asked : Ok (Counted n) ≡ Ok framing = b.is_asked in
    let same : framing ≡ Counted n = cc in
    let is = subst (λ (f : Framing). IsBody f ended at body parts content) same b.is in
    (omega (arith, is.0, b.fits), omega (arith, is.0, ap length b.splits, length-append body left))

pub counted_too_big : (m : Method) (input : List ℕ) (ended : Bool) (hs : List ResponseHead) (h : ResponseHead) (rest : List ℕ) (n : ℕ)
    → StandsAtBody input hs h rest → framing_of m h ≡ Ok (Counted n) → most_bytes < body_start hs h + n
    → IsVerdict m input ended (verdict.Fault FilesizeExceeded)
counted_too_big m input ended hs h rest n s f large =
    body_fault m input ended hs h rest (Ok (Counted n)) FilesizeExceeded s f
    (λ framing body parts content left b. absurd (omega (arith, large, (counted_fits n (body_start hs h) rest ended framing body parts content left b).0)))
    (front_first (Ok (Counted n)) (body_start hs h) (first_body input hs h rest s).seen too_big (inl (refl, (n, refl, large)))
    (λ q other x. (counted_meets n (body_start hs h) q other x).0))

pub counted_short : (m : Method) (input : List ℕ) (ended : Bool) (hs : List ResponseHead) (h : ResponseHead) (rest : List ℕ) (n : ℕ)
    → StandsAtBody input hs h rest → framing_of m h ≡ Ok (Counted n) → body_start hs h + n ≤ most_bytes → length rest < n
    → IsUndecided m input ended
counted_short m input ended hs h rest n s f fits short =
    body_undecided m input ended hs h rest (Ok (Counted n)) s f
    (λ framing body parts content left b. absurd (omega (arith, short, (counted_fits n (body_start hs h) rest ended framing body parts content left b).1)))
    (λ q more other e x. absurd (omega (arith, fits, (counted_meets n (body_start hs h) q other x).1)))

-- ---- a body up to the end

close_meets : (at : ℕ) (q : List ℕ) (other : BodyCause) → MeetsAtBody (Ok Close) at q other → ⊥
close_meets at q bad_framing x = let e : Ok Close ≡ Err WeirdServerReply = x.1 in cc
close_meets at q unknown_coding x = let e : Ok Close ≡ Err BadContentEncoding = x.1 in cc
close_meets at q too_big x = elim x [
  | inl counts ↦ (let e : Ok Close ≡ Ok (Counted counts.1.0) = counts.1.1 in cc)
  | inr chunked ↦ (let e : Ok Close ≡ Ok Chunked = chunked.0 in cc)
]
close_meets at q bad_chunk x = let e : Ok Close ≡ Ok Chunked = x.0 in cc

close_fits : (at : ℕ) (rest : List ℕ) (ended : Bool) (framing : Framing) (body : List ℕ) (parts : List Part) (content left : List ℕ)
    → BeginsWithBody (Ok Close) at rest ended framing body parts content left → (ended ≡ true) × (at + length rest ≤ most_bytes)
close_fits at rest ended framing body parts content left b =
    let asked : Ok Close ≡ Ok framing = b.is_asked in
    let same : framing ≡ Close = cc in
    let is = subst (λ (f : Framing). IsBody f ended at body parts content) same b.is in
    (is.0, omega (arith, b.fits, ap length b.splits, length-append body left, ap length (b.ends same)))

pub close_short : (m : Method) (input : List ℕ) (ended : Bool) (hs : List ResponseHead) (h : ResponseHead) (rest : List ℕ)
    → StandsAtBody input hs h rest → framing_of m h ≡ Ok Close → ((ended ≡ true) → body_start hs h + length rest ≤ most_bytes → ⊥)
    → IsUndecided m input ended
close_short m input ended hs h rest s f not_whole =
    body_undecided m input ended hs h rest (Ok Close) s f
    (λ framing body parts content left b. (let fits = close_fits (body_start hs h) rest ended framing body parts content left b in not_whole fits.0 fits.1))
    (λ q more other e x. close_meets (body_start hs h) q other x)

-- ---- whole responses

-- a body in one piece
pub record IsPlainBody (m : Method) (input : List ℕ) (ended : Bool) (hs : List ResponseHead) (h : ResponseHead) (n : ℕ) : Type 0 where
  pub framing : Framing
  pub body : List ℕ
  pub content : List ℕ
  pub left : List ℕ
  pub stands : StandsAtBody input hs h (body ++ left)
  pub long : length body ≡ n
  pub begins : BeginsWithBody (framing_of m h) (body_start hs h) (body ++ left) ended framing body (one_part (body_start hs h) n) content left

pub one_part-some : (at n : ℕ) → 0 < n → one_part at n ≡ record { start = at; end = at + n } ∷ []
one_part-some at n some =
    let test : (n == 0) ≡ false = grind (arith, nat_tests) in
    ap (λ (t : Bool). cond t [] (record { start = at; end = at + n } ∷ [])) test

pub plain_parts : (m : Method) (input : List ℕ) (ended : Bool) (hs : List ResponseHead) (h : ResponseHead) (n : ℕ) → IsPlainBody m input ended hs h n → 0 < n → BeginsWithParts m input ended
plain_parts m input ended hs h n p some = (
  _,
  p.left,
  body_response m input ended hs h (p.body ++ p.left) p.stands p.framing p.body (one_part (body_start hs h) n) p.content p.left p.begins,
  λ e. omega (arith, ap length (sym (one_part-some (body_start hs h) n some) ∙ e)),
)

pub plain_verdict : (m : Method) (input : List ℕ) (ended : Bool) (hs : List ResponseHead) (h : ResponseHead) (n : ℕ) (p : IsPlainBody m input ended hs h n) (keep : Bool) (v : Verdict)
    → keep ≡ (keeps_of h && not (is_close p.framing)) → IsWholeAt (status_code h) (body_start hs h) n keep v → IsVerdict m input ended v
plain_verdict m input ended hs h n p keep (verdict.Complete status len parts k) kept w = (
  _,
  p.left,
  body_response m input ended hs h (p.body ++ p.left) p.stands p.framing p.body (one_part (body_start hs h) n) p.content p.left p.begins,
  w.0,
  omega (
    arith,
    w.1,
    p.long,
    ap length p.stands.1.1,
    length-append (print_heads hs) (print_response h),
    length-append (print_heads hs) (print_response h ++ (p.body ++ p.left)),
    length-append (print_response h) (p.body ++ p.left),
    length-append p.body p.left,
  ),
  w.2,
  w.3 ∙ kept,
)
plain_verdict m input ended hs h n p keep verdict.More kept w = absurd w
plain_verdict m input ended hs h n p keep (verdict.Fault code) kept w = absurd w

pub empty_body : (m : Method) (input : List ℕ) (ended : Bool) (hs : List ResponseHead) (h : ResponseHead) (rest : List ℕ)
    → StandsAtBody input hs h rest → framing_of m h ≡ Ok Empty → IsPlainBody m input ended hs h 0
empty_body m input ended hs h rest s f = record {
  framing = Empty;
  body = [];
  content = [];
  left = rest;
  stands = s;
  long = refl;
  begins = record {
    splits = refl;
    fits = omega (arith, body_start_small input hs h rest s);
    is_asked = f;
    is = (refl, refl, refl);
    ends = λ e. absurd (let both : Empty ≡ Close = e in cc);
  };
}

pub counted_body : (m : Method) (input : List ℕ) (ended : Bool) (hs : List ResponseHead) (h : ResponseHead) (rest : List ℕ) (n : ℕ)
    → StandsAtBody input hs h rest → framing_of m h ≡ Ok (Counted n) → body_start hs h + n ≤ most_bytes → n ≤ length rest → IsPlainBody m input ended hs h n
counted_body m input ended hs h rest n s f fits there =
    let long : length (take n rest) ≡ n = omega (arith, length-take n rest) in
    let splits = sym (take-append-drop n rest) in
    record {
      framing = Counted n;
      body = take n rest;
      content = take n rest;
      left = drop n rest;
      stands = subst (λ (t : List ℕ). StandsAtBody input hs h t) splits s;
      long = long;
      begins = record {
        splits = refl;
        fits = omega (arith, long);
        is_asked = f;
        is = (long, refl, refl);
        ends = λ e. absurd (let both : Counted n ≡ Close = e in cc);
      };
    }

pub close_body : (m : Method) (input : List ℕ) (ended : Bool) (hs : List ResponseHead) (h : ResponseHead) (rest : List ℕ)
    → StandsAtBody input hs h rest → framing_of m h ≡ Ok Close → ended ≡ true → body_start hs h + length rest ≤ most_bytes → IsPlainBody m input ended hs h (length rest)
close_body m input ended hs h rest s f end fits = record {
  framing = Close;
  body = rest;
  content = rest;
  left = [];
  stands = subst (λ (t : List ℕ). StandsAtBody input hs h t) (sym (append-nil rest)) s;
  long = refl;
  begins = record {
    splits = refl;
    fits = fits;
    is_asked = f;
    is = (end, refl, refl);
    ends = λ e. refl;
  };
}

pub ok_map : {E : Type 0} (r : Result Verdict E) {P Q : Verdict → Type 0} → IfOk r P → ((v : Verdict) → P v → Q v) → IfOk r Q
ok_map (Ok v) p step = step v p
ok_map (Err e) p step = tt

pub err_map : {E : Type 0} (r : Result Verdict E) {P Q : Type 0} → OnErr r P → (P → Q) → OnErr r Q
err_map (Ok v) p step = tt
err_map (Err e) p step = step p

pub whole_at : {s t a b n k : ℕ} {x y : Bool} (v : Verdict) → s ≡ t → a ≡ b → n ≡ k → x ≡ y → IsWholeAt s a n x v → IsWholeAt t b k y v
whole_at v p q r u w = subst (λ (z : (ℕ × ℕ) × (ℕ × Bool)). IsWholeAt z.0.0 z.0.1 z.1.0 z.1.1 v) (λ i. ((p i, q i), (r i, u i))) w

pub input_length : (input : List ℕ) (hs : List ResponseHead) (h : ResponseHead) (rest : List ℕ) → StandsAtBody input hs h rest → length input ≡ body_start hs h + length rest
input_length input hs h rest s =
    omega (arith, ap length s.1.1, length-append (print_heads hs) (print_response h ++ rest), length-append (print_response h) rest, length-append (print_heads hs) (print_response h))
