-- Which faults the bytes at the place of a head can meet.
use Rattle.std.proofs.Common.{◌≡◌, ◌≢◌, ℕ, ◌+◌, ◌<◌, ◌≤◌, inl, inr, true, false, List, [], ◌∷◌, ◌++◌, length, take, drop, refl, sym, ap, subst, ◌∙◌, arith, append_assoc, length-append, length-take, length-drop, All}
use Rattle.std.specs.Prelude.{flat_map}
use Rattle.std.proofs.lemmas.List.{append-nil, append_cancel_right, same_from_push, drop_all, get_or-take, get_or-drop, length-take-le}
use Rattle.std.proofs.lemmas.Bool.{cases_lt}
use Rattle.httparse.specs.Ascii.{crlf_bytes}
use Rattle.httparse.specs.Grammar.{is_token_byte, LineEnd, crlf, lf, print_end, print_blank, Field, print_field, IsField, ResponseHead, print_response, ReadsResponse}
use Rattle.httparse.specs.Spans.{ResponseExceeds}
use Rattle.httparse.specs.Pieces.{is_newline}
use Rattle.httparse.proofs.GrammarLemmas.{response_unique}
use Rattle.httparse.proofs.PieceLemmas.{token_is_no_newline}
use Rattle.mx_head.specs.declared.lines.Place.{Place}
use Rattle.mx_head.specs.declared.lines.LineKind.{LineKind}
use Rattle.mx_head.specs.declared.lines.LineKind.TheVariants.{Fresh, Return, Text}
use Rattle.mx_head.specs.Heads.{ReadsHead}
use Rattle.mx_head.specs.Faults.{many_fields, never_head, long_head, HasAllFields, HasManyFields, MeetsAtHead, MeetsNothing}
use Rattle.mx_head.specs.Lines.{place_by, scan, start, IsFull, HasFieldPast}
use Rattle.mx_head.proofs.LineLemmas.{front_of, scan-append}
use Rattle.mx_head.proofs.HeadLines.{status_line, head_split, head_scan, head_cut, first_full}

-- the head h with its first 128 fields alone
abbrev trimmed : ResponseHead → ResponseHead
trimmed h = record h { fields = take 128 h.fields; last = crlf }

-- what is full and can become a head has all its fields
pub full_has_all : (s more : List ℕ) (h : ResponseHead) → ReadsResponse (s ++ more) h [] → IsFull s → HasAllFields s
full_has_all s more h reads f =
    let cut = head_cut h reads.0 s more (reads.1 ∙ append-nil (print_response h)) f in (
      trimmed h,
      (
        record {
          minor = reads.0.minor;
          digits = reads.0.digits;
          reason = reads.0.reason;
          fields = λ k d lt. subst IsField (sym (get_or-take 128 h.fields k d (omega (arith, length-take 128 h.fields)))) (reads.0.fields k d (omega (arith, length-take 128 h.fields)));
        },
        ap (λ (t : List ℕ). t ++ crlf_bytes) cut.is
            ∙ regroup (print_blank h.blank) (status_line h) (flat_map print_field (take 128 h.fields)) crlf_bytes
            ∙ sym (head_split (trimmed h)) ∙ sym (append-nil (print_response (trimmed h))),
      ),
      length-take-le 128 h.fields cut.many,
    )
  where
    regroup : (a b c d : List ℕ) → (a ++ (b ++ c)) ++ d ≡ a ++ (b ++ (c ++ d))
    regroup a b c d = simp append_assoc

return_fills_none : (p : Place) (front : List ℕ) → (scan p (front ++ 13 ∷ [])).lines ≤ (scan p front).lines
return_fills_none p front =
    omega (arith, ap (λ (q : Place). q.lines) (scan-append p front (13 ∷ [])), step (scan p front).kind (scan p front).lines)
  where
    step : (k : LineKind) (n : ℕ) → (place_by k n 13).lines ≤ n
    step Fresh n = omega arith
    step Return n = omega arith
    step Text n = omega arith

-- what has all its fields is full
pub all_is_full : (s : List ℕ) → HasAllFields s → IsFull s
all_is_full s has =
    let h = has.0 in
    let bytes : s ++ crlf_bytes ≡ print_response h = has.1.1 ∙ append-nil (print_response h) in
    let counted = ap (λ (q : Place). q.lines) (head_scan h has.1.0) in
    let u = first_full start (print_response h) (omega arith) (omega (arith, counted, has.2)) in
    let cut = head_cut h has.1.0 u.0 u.1 (sym u.2) u.3 in
    let last : u.1 ≡ print_end h.last = cut.goes ∙ ap (λ (t : List Field). flat_map print_field t ++ print_end h.last) (drop_all 128 h.fields (omega (arith, has.2))) in
    by_end h.last (bytes ∙ u.2 ∙ ap (λ (t : List ℕ). u.0 ++ t) last) u.3
  where
    by_end : {u : List ℕ} (end : LineEnd) → s ++ crlf_bytes ≡ u ++ print_end end → IsFull u → IsFull s
    by_end {u} crlf e f = subst IsFull (sym (append_cancel_right s u crlf_bytes e)) f
    by_end {u} lf e f =
        let same : s ++ 13 ∷ [] ≡ u = (same_from_push (s ++ 13 ∷ []) u 10 10 (append_assoc s (13 ∷ []) (10 ∷ []) ∙ e)).0 in
        let ends = same_from_push f.front s f.last 13 (sym f.is ∙ sym same) in
        absurd (omega (arith, f.before, f.full, return_fills_none start s, ap (λ (t : List ℕ). (scan start t).lines) same, ap (λ (t : List ℕ). (scan start t).lines) ends.0))

-- a head that is taken meets no fault on the way
no_many : (input : List ℕ) (h : ResponseHead) (rest q more : List ℕ) → ReadsHead input h rest → input ≡ q ++ more → HasManyFields q → ⊥
no_many input h rest q more reads e many =
    let s = many.0 in
    let b = many.1 in
    let full = all_is_full s many.5 in
    let whole : s ++ b ∷ more ≡ print_response h ++ rest =
    sym (append_assoc s (b ∷ []) more) ∙ sym (ap (λ (t : List ℕ). t ++ more) many.2) ∙ sym e ∙ reads.1 in
    elim (cases_lt (length s) (length (print_response h))) [
      | inl inside ↦
          let r = front_of s (print_response h) (b ∷ more) rest whole (omega arith) in
          let cut = head_cut h reads.0.grammar s r.0 (sym r.1) full in
          let last : r.0 ≡ print_end h.last = cut.goes ∙ ap (λ (t : List Field). flat_map print_field t ++ print_end h.last) (drop_all 128 h.fields reads.0.fields) in
          at_end h.last (r.2 ∙ ap (λ (t : List ℕ). t ++ rest) last)
      | inr past ↦
          let r = front_of (print_response h) s rest (b ∷ more) (sym whole) past in
          let two = response_unique (s ++ crlf_bytes) h many.5.0 (r.0 ++ crlf_bytes) [] (reads.0.grammar, ap (λ (t : List ℕ). t ++ crlf_bytes) r.1 ∙ append_assoc (print_response h) r.0 crlf_bytes) many.5.1 in
          absurd (omega (arith, ap length two.1, length-append r.0 crlf_bytes))
    ]
  where
    at_end : (end : LineEnd) → many.1 ∷ more ≡ print_end end ++ rest → ⊥
    at_end crlf e = many.3 (cc)
    at_end lf e = many.4 (cc)

pub head_meets_nothing : (input : List ℕ) (h : ResponseHead) (rest : List ℕ) → ReadsHead input h rest → MeetsNothing MeetsAtHead input
head_meets_nothing input h rest reads q more many_fields e meets = no_many input h rest q more reads e meets
head_meets_nothing input h rest reads q more never_head e meets = meets more h rest (reads.0.grammar, sym e ∙ reads.1)
head_meets_nothing input h rest reads q more long_head e meets =
    let r = front_of (print_response h) q rest more (sym reads.1 ∙ e) (omega (arith, meets.0, reads.0.bytes)) in
    meets.1 h r.0 (reads.0, r.1)

-- bytes that begin with one that is no line end, and another after it
pub record BeginsLine (text : List ℕ) : Type 0 where
  pub first : ℕ
  pub others : List ℕ
  pub is : text ≡ first ∷ others
  pub not_return : first ≢ 13
  pub not_feed : first ≢ 10
  pub some : 1 ≤ length others

word_begins : (name more : List ℕ) → 0 < length name → All (λ v. is_token_byte v ≡ true) name → 1 ≤ length more → BeginsLine (name ++ more)
word_begins [] more some all long = absurd (omega arith)
word_begins (b ∷ name) more some all long =
    let clean = token_is_no_newline b (all 0 0 (omega arith)) in
    record {
      first = b;
      others = name ++ more;
      is = refl;
      not_return = λ e. let both : false ≡ is_newline 13 = sym clean ∙ ap is_newline e in cc;
      not_feed = λ e. let both : false ≡ is_newline 10 = sym clean ∙ ap is_newline e in cc;
      some = omega (arith, length-append name more);
    }

pub fields_begin : (fs : List Field) (tail : List ℕ) → All IsField fs → 0 < length fs → BeginsLine (flat_map print_field fs ++ tail)
fields_begin [] tail all some = absurd (omega arith)
fields_begin (f ∷ fs) tail all some =
    let is = all 0 f (omega arith) in
    subst BeginsLine (sym (regroup f.name f.raw (print_end f.end) (flat_map print_field fs) tail))
    (word_begins f.name (58 ∷ (f.raw ++ (print_end f.end ++ (flat_map print_field fs ++ tail)))) is.name.0 is.name.1 (omega arith))
  where
    regroup : (a b c d e : List ℕ) → (((a ++ 58 ∷ b) ++ c) ++ d) ++ e ≡ a ++ (58 ∷ (b ++ (c ++ (d ++ e))))
    regroup a b c d e = simp append_assoc

behind : (u text front : List ℕ) → BeginsLine text → u ++ text ≡ front ++ 10 ∷ [] → IsFull u → HasFieldPast front
behind u text front begins e full =
    let whole = e in
    let r = front_of u front text (10 ∷ []) e (omega (arith, ap length e, length-append u text, length-append front (10 ∷ []), ap length begins.is, begins.some)) in
    at_rest r.0 r.1 (sym begins.is ∙ r.2)
  where
    at_rest : (d : List ℕ) → front ≡ u ++ d → begins.first ∷ begins.others ≡ d ++ 10 ∷ [] → HasFieldPast front
    at_rest [] is goes = absurd (omega (arith, begins.some, ap length goes))
    at_rest (z ∷ d) is goes = record {
      front = u;
      next = z;
      after = d;
      is = is;
      not_return = λ e. begins.not_return (let same : begins.first ≡ z = cc in same ∙ e);
      not_feed = λ e. begins.not_feed (let same : begins.first ≡ z = cc in same ∙ e);
      full = full;
    }

pub exceeds_past : (buf : List ℕ) → ResponseExceeds 128 buf → HasFieldPast buf
exceeds_past buf x =
    let front = x.0 in
    let h = x.3 in
    let bytes : front ++ 10 ∷ [] ≡ print_response h = x.4.1 ∙ append-nil (print_response h) in
    let counted = ap (λ (q : Place). q.lines) (head_scan h x.4.0) in
    let u = first_full start (print_response h) (omega arith) (omega (arith, counted, x.5)) in
    let cut = head_cut h x.4.0 u.0 u.1 (sym u.2) u.3 in
    let left = drop 128 h.fields in
    let some : 0 < length left = omega (arith, length-drop 128 h.fields, x.5) in
    let each : All IsField left = λ k d lt. subst IsField (sym (get_or-drop 128 h.fields k d)) (x.4.0.fields (128 + k) d (omega (arith, length-drop 128 h.fields, lt))) in
    let begins = fields_begin left (print_end h.last) each some in
    let past = behind u.0 (flat_map print_field left ++ print_end h.last) front begins (ap (λ (t : List ℕ). u.0 ++ t) (sym cut.goes) ∙ sym u.2 ∙ sym bytes) u.3 in
    record {
      front = past.front;
      next = past.next;
      after = past.after ++ x.1;
      is = x.2 ∙ ap (λ (t : List ℕ). t ++ x.1) past.is ∙ append_assoc past.front (past.next ∷ past.after) x.1;
      not_return = past.not_return;
      not_feed = past.not_feed;
      full = past.full;
    }
