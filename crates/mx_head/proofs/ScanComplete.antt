-- A scan stays open along each head: what it settles is no proper prefix of one.
use Rattle.std.proofs.Common.{◌≡◌, ℕ, zero, suc, ◌+◌, ◌<◌, ◌≤◌, inl, inr, Bool, true, false, cond, List, [], ◌∷◌, ◌++◌, length, fold, refl, sym, ap, subst, ◌∙◌, arith, append_assoc, length-append, Option, Some, None, All}
use Rattle.std.specs.Prelude.{◌&&◌, flat_map, nat_lt}
use Rattle.std.specs.Char.{is_ascii_digit}
use Rattle.std.proofs.lemmas.Bool.{lt-ltb, cases_lt}
use Rattle.std.proofs.lemmas.List.{append-nil}
use Rattle.std.proofs.lemmas.List.Sums.{fold-append}
use Rattle.std.proofs.lemmas.List.Elements.{All-head, All-tail}
use Rattle.httparse.specs.Grammar.{AllPass, is_token_byte, is_value_byte, LineEnd, crlf, lf, print_end, print_blank, print_version, Field, print_field, IsField, print_reason, reason_phrase, ResponseHead, IsResponseHead, print_response}
use Rattle.mx_head.specs.declared.scan.Spot.{Spot}
use Rattle.mx_head.specs.declared.scan.Spot.TheVariants.{Blank, BlankReturn, Opening, Code, Text, Return, Line, Name, LastReturn, Settled}
use Rattle.mx_head.specs.declared.scan.Reached.{Reached}
use Rattle.mx_head.specs.Fronts.{IsFrontOfHead}
use Rattle.mx_head.specs.Scan.{step, reached, after, start, after_all, is_settled}
use Rattle.mx_head.proofs.ScanRuns.{text_stays, name_stays}
use Rattle.mx_head.proofs.HeadLines.{status_line, opening, head_split}
use Rattle.mx_head.proofs.LineLemmas.{front_of}

-- what is settled stays so
stays_settled : (n : ℕ) (bytes : List ℕ) → fold after (reached Settled n) bytes ≡ reached Settled n
stays_settled n [] = refl
stays_settled n (b ∷ bytes) = stays_settled n bytes

settled_is : (s : Spot) → is_settled s ≡ true → s ≡ Settled
settled_is Blank e = cc
settled_is BlankReturn e = cc
settled_is (Opening at) e = cc
settled_is Code e = cc
settled_is Text e = cc
settled_is Return e = cc
settled_is Line e = cc
settled_is Name e = cc
settled_is LastReturn e = cc
settled_is Settled e = refl

line_ends : (n : ℕ) (end : LineEnd) → fold after (reached Text n) (print_end end) ≡ reached Line n
line_ends n crlf = refl
line_ends n lf = refl

two : (r : Reached) (a b : List ℕ) {mid : Reached} → fold after r a ≡ mid → fold after r (a ++ b) ≡ fold after mid b
two r a b e = fold-append after r a b ∙ ap (λ (m : Reached). fold after m b) e

-- a name and its colon
name_colon : (n : ℕ) (name : List ℕ) → AllPass is_token_byte name → fold after (reached Name n) (name ++ 58 ∷ []) ≡ reached Text n
unfolding is_token_byte
name_colon n name all = two (reached Name n) name (58 ∷ []) (name_stays n name all)

begins : (n b : ℕ) → n < 128 → is_token_byte b ≡ true → after (reached Line n) b ≡ reached Name (n + 1)
begins n b room is =
    ap (λ (v : Bool). cond (v && is_token_byte b) (reached Name (n + 1)) (reached (step Line b) n)) (lt-ltb n 128 room)
    ∙ ap (λ (v : Bool). cond v (reached Name (n + 1)) (reached (step Line b) n)) is

field_parts : (n : ℕ) (name raw : List ℕ) (end : LineEnd) → n < 128 → 0 < length name → AllPass is_token_byte name → AllPass is_value_byte raw
    → fold after (reached Line n) ((name ++ 58 ∷ raw) ++ print_end end) ≡ reached Line (n + 1)
field_parts n [] raw end room some all values = absurd (omega (arith, some))
field_parts n (b ∷ name) raw end room some all values =
    ap (λ (r : Reached). fold after r ((name ++ 58 ∷ raw) ++ print_end end)) (begins n b room (All-head (λ x. is_token_byte x ≡ true) b name all))
    ∙ ap (fold after (reached Name (n + 1))) (ap (λ (t : List ℕ). t ++ print_end end) (sym (append_assoc name (58 ∷ []) raw)) ∙ append_assoc (name ++ 58 ∷ []) raw (print_end end))
    ∙ two (reached Name (n + 1)) (name ++ 58 ∷ []) (raw ++ print_end end) (name_colon (n + 1) name (All-tail (λ x. is_token_byte x ≡ true) b name all))
    ∙ two (reached Text (n + 1)) raw (print_end end) (text_stays (n + 1) raw values)
    ∙ line_ends (n + 1) end

fields_scan : (fs : List Field) (n : ℕ) → All IsField fs → n + length fs ≤ 128 → fold after (reached Line n) (flat_map print_field fs) ≡ reached Line (n + length fs)
fields_scan [] n all few = ap (reached Line) (omega arith)
fields_scan (f ∷ fs) n all few =
    let is = All-head IsField f fs all in
    two (reached Line n) (print_field f) (flat_map print_field fs) (field_parts n f.name f.raw f.end (omega (arith, few)) is.name.0 is.name.1 is.raw)
    ∙ fields_scan fs (n + 1) (All-tail IsField f fs all) (omega (arith, few))
    ∙ ap (reached Line) (omega arith)

blank_scan : (ends : List LineEnd) → fold after start (print_blank ends) ≡ start
blank_scan [] = refl
blank_scan (crlf ∷ ends) = blank_scan ends
blank_scan (lf ∷ ends) = blank_scan ends

digits_scan : (digits : List ℕ) → length digits ≡ 3 → AllPass is_ascii_digit digits → fold after (reached (Opening 9) 0) digits ≡ reached Code 0
digits_scan [] three all = absurd (omega (arith, three))
digits_scan (a ∷ []) three all = absurd (omega (arith, three))
digits_scan (a ∷ b ∷ []) three all = absurd (omega (arith, three))
digits_scan (a ∷ b ∷ c ∷ []) three all =
    ap (λ (v : Bool). fold after (reached (cond v (Opening 10) Settled) 0) (b ∷ c ∷ [])) (all 0 0 (omega arith))
    ∙ ap (λ (v : Bool). fold after (reached (cond v (Opening 11) Settled) 0) (c ∷ [])) (all 1 0 (omega arith))
    ∙ ap (λ (v : Bool). reached (cond v Code Settled) 0) (all 2 0 (omega arith))
digits_scan (a ∷ b ∷ c ∷ d ∷ digits) three all = absurd (omega (arith, three))

version_scan : (minor : ℕ) → minor ≤ 1 → fold after start (print_version minor ++ 32 ∷ []) ≡ reached (Opening 9) 0
version_scan zero small = refl
version_scan (suc zero) small = refl
version_scan (suc (suc minor)) small = absurd (omega (arith, small))

reason_scan : (reason : Option (List ℕ)) (end : LineEnd) → AllPass is_value_byte (reason_phrase reason) → fold after (reached Code 0) (print_reason reason ++ print_end end) ≡ reached Line 0
reason_scan None crlf all = refl
reason_scan None lf all = refl
reason_scan (Some phrase) end all = two (reached Text 0) phrase (print_end end) (text_stays 0 phrase all) ∙ line_ends 0 end

status_scan : (h : ResponseHead) → IsResponseHead h → fold after start (status_line h) ≡ reached Line 0
status_scan h is =
    ap (fold after start) (regroup (print_version h.minor) h.digits (print_reason h.reason) (print_end h.line_end))
    ∙ two start (print_version h.minor ++ 32 ∷ []) (h.digits ++ (print_reason h.reason ++ print_end h.line_end)) (version_scan h.minor is.minor)
    ∙ two (reached (Opening 9) 0) h.digits (print_reason h.reason ++ print_end h.line_end) (digits_scan h.digits is.digits.0 is.digits.1)
    ∙ reason_scan h.reason h.line_end is.reason
  where
    cons_append : (x : ℕ) (a b : List ℕ) → (x ∷ a) ++ b ≡ x ∷ (a ++ b)
    cons_append x a b = refl

    nil_append : (a : List ℕ) → [] ++ a ≡ a
    nil_append a = refl

    regroup : (v d r e : List ℕ) → (v ++ 32 ∷ (d ++ r)) ++ e ≡ (v ++ 32 ∷ []) ++ (d ++ (r ++ e))
    regroup v d r e = simp (append_assoc, cons_append, nil_append)

lines_scan : (h : ResponseHead) → IsResponseHead h → length h.fields ≤ 128
    → fold after start (opening h ++ flat_map print_field h.fields) ≡ reached Line (length h.fields)
lines_scan h is few =
    two start (opening h) (flat_map print_field h.fields) (two start (print_blank h.blank) (status_line h) (blank_scan h.blank) ∙ status_scan h is)
    ∙ fields_scan h.fields 0 is.fields (omega (arith, few))
    ∙ ap (reached Line) (omega arith)

-- the CR of the last line
return_stays : (n : ℕ) → is_settled (after (reached Line n) 13).spot ≡ false
unfolding is_token_byte
return_stays n = by_room (nat_lt n 128)
  where
    by_room : (v : Bool) → is_settled (cond (v && false) (reached Name (n + 1)) (reached LastReturn n)).spot ≡ false
    by_room true = refl
    by_room false = refl

-- where the bytes lead to no settled spot, no prefix of them does
pub front_is_open : (front rest : List ℕ) → is_settled (fold after start (front ++ rest)).spot ≡ false → is_settled (fold after start front).spot ≡ false
front_is_open front rest still = by_front (is_settled (fold after start front).spot) refl
  where
    by_front : (v : Bool) → is_settled (fold after start front).spot ≡ v → is_settled (fold after start front).spot ≡ false
    by_front false is = is
    by_front true is =
        let there : fold after start front ≡ reached Settled (fold after start front).fields = ap (λ (s : Spot). reached s (fold after start front).fields) (settled_is _ is) in
        let later : fold after start (front ++ rest) ≡ reached Settled (fold after start front).fields = two start front rest there ∙ stays_settled _ rest in
        let both : true ≡ false = sym (ap (λ (r : Reached). is_settled r.spot) later) ∙ still in
        absurd (cc)

pub front_open : (text : List ℕ) → IsFrontOfHead text → is_settled (after_all text).spot ≡ false
front_open text f =
    let h = f.head in
    let lines = opening h ++ flat_map print_field h.fields in
    let scanned = lines_scan h f.reads.0 f.few in
    let whole : text ++ f.more ≡ lines ++ print_end h.last = f.reads.1 ∙ append-nil (print_response h) ∙ head_split h ∙ regroup (print_blank h.blank) (status_line h) (flat_map print_field h.fields) (print_end h.last) in
    elim (cases_lt (length lines) (length text)) [
      | inl longer ↦
          let r = front_of lines text (print_end h.last) f.more (sym whole) (omega (arith, longer)) in
          subst (λ (t : List ℕ). is_settled (fold after start t).spot ≡ false) (sym r.1)
          (subst (λ (q : Reached). is_settled q.spot ≡ false) (sym (two start lines r.0 scanned))
          (at_end h.last r.0 (length h.fields) (omega (arith, longer, ap length r.1, length-append lines r.0)) r.2))
      | inr within ↦
          let r = front_of text lines f.more (print_end h.last) whole within in
          front_is_open text r.0 (subst (λ (t : List ℕ). is_settled (fold after start t).spot ≡ false) r.1 (ap (λ (q : Reached). is_settled q.spot) scanned))
    ]
  where
    regroup : (a s x e : List ℕ) → a ++ (s ++ (x ++ e)) ≡ ((a ++ s) ++ x) ++ e
    regroup a s x e = simp append_assoc

    at_end : (end : LineEnd) (c : List ℕ) (n : ℕ) → 0 < length c → print_end end ≡ c ++ f.more → is_settled (fold after (reached Line n) c).spot ≡ false
    at_end end [] n some e = absurd (omega (arith, some))
    at_end crlf (x ∷ []) n some e =
        let first : x ≡ 13 = cc in
        subst (λ (b : ℕ). is_settled (after (reached Line n) b).spot ≡ false) (sym first) (return_stays n)
    at_end crlf (x ∷ y ∷ c) n some e = absurd (omega (arith, f.some, ap length e, length-append c f.more))
    at_end lf (x ∷ c) n some e = absurd (omega (arith, f.some, ap length e, length-append c f.more))
