-- What the spots of a scan say of the bytes read: while nothing is settled, they are a proper prefix of a head.
use Rattle.std.proofs.Common.{◌≡◌, ℕ, zero, suc, ◌+◌, ◌-◌, ◌<◌, ◌≤◌, Bool, true, false, cond, ◌&&◌, ◌||◌, List, [], ◌∷◌, ◌++◌, length, fold, refl, sym, ap, subst, ◌∙◌, arith, append_assoc, length-append, Option, Some, None}
use Rattle.std.specs.Prelude.{◌==◌, flat_map, nat_lt, codes, slice_index}
use Rattle.std.specs.Char.{is_ascii_digit}
use Rattle.std.proofs.lemmas.Bool.{eqb-true, eq-eqb, ltb-true, ltb-false}
use Rattle.std.proofs.lemmas.List.{append-nil, take-append-le}
use Rattle.std.proofs.lemmas.List.Concat.{flat_map-append}
use Rattle.std.proofs.lemmas.List.Elements.{All-nil, All-cons, All-append}
use Rattle.httparse.specs.Grammar.{AllPass, is_token_byte, is_value_byte, LineEnd, crlf, lf, print_end, print_blank, print_version, Field, print_field, IsField, print_reason, reason_phrase, ResponseHead, IsResponseHead, print_response}
use Rattle.mx_head.specs.declared.scan.Spot.{Spot}
use Rattle.mx_head.specs.declared.scan.Spot.TheVariants.{Blank, BlankReturn, Opening, Code, Text, Return, Line, Name, LastReturn, Settled}
use Rattle.mx_head.specs.declared.scan.Reached.{Reached}
use Rattle.mx_head.specs.declared.scan.HeadScan.{HeadScan}
use Rattle.mx_head.specs.Fronts.{IsFrontOfHead}
use Rattle.mx_head.specs.Scan.{fits_opening, in_opening, line_end, step, reached, after, start, after_all, is_settled, HasScanned}
use Rattle.mx_head.proofs.HeadLines.{status_line, opening, head_split}

-- the bytes are the lines before a status line, that line, and so many field lines
pub record AreLines (fields : ℕ) (text : List ℕ) : Type 0 where
  pub head : ResponseHead
  pub is : IsResponseHead head
  pub count : length head.fields ≡ fields
  pub bytes : text ≡ opening head ++ flat_map print_field head.fields

-- whatever of a value comes, and then the end of its line, they are
abbrev pub InText : ℕ → List ℕ → Type 0
InText n text = (w : List ℕ) (end : LineEnd) → AllPass is_value_byte w → AreLines n (text ++ (w ++ print_end end))

abbrev pub InName : ℕ → List ℕ → Type 0
InName n text =
    (name w : List ℕ) (end : LineEnd) → AllPass is_token_byte name → AllPass is_value_byte w
    → AreLines n (text ++ (name ++ 58 ∷ (w ++ print_end end)))

abbrev pub BehindCode : ℕ → List ℕ → Type 0
BehindCode n text =
    (reason : Option (List ℕ)) (end : LineEnd) → AllPass is_value_byte (reason_phrase reason)
    → AreLines n (text ++ (print_reason reason ++ print_end end))

-- the rest of a version and a code, of which so many bytes are there
abbrev pub IsOpeningFrom : ℕ → List ℕ → Type 0
IsOpeningFrom at [] = at ≡ 12
IsOpeningFrom at (b ∷ bytes) = (fits_opening at b ≡ true) × IsOpeningFrom (at + 1) bytes

abbrev pub InOpening : ℕ → ℕ → List ℕ → Type 0
InOpening at n text = (bytes : List ℕ) → IsOpeningFrom at bytes → BehindCode n (text ++ bytes)

-- what the text is, where it leads to that spot and so many field lines have begun
abbrev pub Stands : Spot → ℕ → List ℕ → Type 0
Stands Blank n text = (n ≡ 0) × ((ends : List LineEnd) × (text ≡ print_blank ends))
Stands BlankReturn n text = (n ≡ 0) × ((ends : List LineEnd) × (text ≡ print_blank ends ++ 13 ∷ []))
Stands (Opening at) n text = (at < 12) × InOpening at n text
Stands Code n text = BehindCode n text
Stands Text n text = InText n text
Stands Return n text = AreLines n (text ++ 10 ∷ [])
Stands Line n text = AreLines n text
Stands Name n text = InName n text
Stands LastReturn n text = (u : List ℕ) × (text ≡ u ++ 13 ∷ []) × AreLines n u
Stands Settled n text = Unit {0}

-- it is there, with no more field lines than are taken
abbrev pub Good : Reached → List ℕ → Type 0
Good r text = (r.fields ≤ 128) × Stands r.spot r.fields text

pass_none : (test : ℕ → Bool) → AllPass test []
pass_none test = All-nil (λ x. test x ≡ true)

pass_more : (test : ℕ → Bool) (b : ℕ) (w : List ℕ) → test b ≡ true → AllPass test w → AllPass test (b ∷ w)
pass_more test b w is all = All-cons (λ x. test x ≡ true) b w is all

-- ---- one more byte

push : (t : List ℕ) (b : ℕ) (more : List ℕ) → t ++ b ∷ more ≡ (t ++ b ∷ []) ++ more
push t b more = sym (append_assoc t (b ∷ []) more)

-- a byte that ends a line with some text
ends_line : (n b : ℕ) (t : List ℕ) → n ≤ 128 → ((end : LineEnd) → AreLines n (t ++ print_end end)) → Good (reached (line_end b) n) (t ++ b ∷ [])
ends_line n b t few lines = by_return (b == 13) refl
  where
    by_feed : (v : Bool) → (b == 10) ≡ v → Good (reached (cond v Line Settled) n) (t ++ b ∷ [])
    by_feed true is = (few, subst (λ (x : ℕ). AreLines n (t ++ x ∷ [])) (sym (eqb-true b 10 is)) (lines lf))
    by_feed false is = (few, tt)

    by_return : (v : Bool) → (b == 13) ≡ v → Good (reached (cond v Return (cond (b == 10) Line Settled)) n) (t ++ b ∷ [])
    by_return true is =
        (few, subst (AreLines n) (push t b (10 ∷ [])) (subst (λ (x : ℕ). AreLines n (t ++ x ∷ 10 ∷ [])) (sym (eqb-true b 13 is)) (lines crlf)))
    by_return false is = by_feed (b == 10) refl

text_step : (n b : ℕ) (t : List ℕ) → n ≤ 128 → InText n t → Good (reached (step Text b) n) (t ++ b ∷ [])
text_step n b t few text = by_value (is_value_byte b) refl
  where
    by_value : (v : Bool) → is_value_byte b ≡ v → Good (reached (cond v Text (line_end b)) n) (t ++ b ∷ [])
    by_value true is = (few, λ w end all. subst (AreLines n) (push t b (w ++ print_end end)) (text (b ∷ w) end (pass_more is_value_byte b w is all)))
    by_value false is = ends_line n b t few (λ end. text [] end (pass_none is_value_byte))

name_step : (n b : ℕ) (t : List ℕ) → n ≤ 128 → InName n t → Good (reached (step Name b) n) (t ++ b ∷ [])
name_step n b t few name = by_token (is_token_byte b) refl
  where
    by_colon : (v : Bool) → (b == 58) ≡ v → Good (reached (cond v Text Settled) n) (t ++ b ∷ [])
    by_colon true is =
        (few, λ w end all. subst (AreLines n) (push t b (w ++ print_end end)) (subst (λ (x : ℕ). AreLines n (t ++ x ∷ (w ++ print_end end))) (sym (eqb-true b 58 is)) (name [] w end (pass_none is_token_byte) all)))
    by_colon false is = (few, tt)

    by_token : (v : Bool) → is_token_byte b ≡ v → Good (reached (cond v Name (cond (b == 58) Text Settled)) n) (t ++ b ∷ [])
    by_token true is =
        (few, λ more w end all values. subst (AreLines n) (push t b (more ++ 58 ∷ (w ++ print_end end))) (name (b ∷ more) w end (pass_more is_token_byte b more is all) values))
    by_token false is = by_colon (b == 58) refl

code_step : (n b : ℕ) (t : List ℕ) → n ≤ 128 → BehindCode n t → Good (reached (step Code b) n) (t ++ b ∷ [])
code_step n b t few code = by_space (b == 32) refl
  where
    by_space : (v : Bool) → (b == 32) ≡ v → Good (reached (cond v Text (line_end b)) n) (t ++ b ∷ [])
    by_space true is =
        (few, λ w end all. subst (AreLines n) (push t b (w ++ print_end end)) (subst (λ (x : ℕ). AreLines n (t ++ x ∷ (w ++ print_end end))) (sym (eqb-true b 32 is)) (code (Some w) end all)))
    by_space false is = ends_line n b t few (λ end. code None end (pass_none is_value_byte))

return_step : (n b : ℕ) (t : List ℕ) → n ≤ 128 → AreLines n (t ++ 10 ∷ []) → Good (reached (step Return b) n) (t ++ b ∷ [])
return_step n b t few lines = by_feed (b == 10) refl
  where
    by_feed : (v : Bool) → (b == 10) ≡ v → Good (reached (cond v Line Settled) n) (t ++ b ∷ [])
    by_feed true is = (few, subst (λ (x : ℕ). AreLines n (t ++ x ∷ [])) (sym (eqb-true b 10 is)) lines)
    by_feed false is = (few, tt)

line_step : (n b : ℕ) (t : List ℕ) → n ≤ 128 → AreLines n t → Good (reached (step Line b) n) (t ++ b ∷ [])
line_step n b t few lines = by_return (b == 13) refl
  where
    by_return : (v : Bool) → (b == 13) ≡ v → Good (reached (cond v LastReturn Settled) n) (t ++ b ∷ [])
    by_return true is = (few, (t, ap (λ (x : ℕ). t ++ x ∷ []) (eqb-true b 13 is), lines))
    by_return false is = (few, tt)

-- one more field line
field_lines : (n : ℕ) (t : List ℕ) (f : Field) → AreLines n t → IsField f → AreLines (n + 1) (t ++ print_field f)
field_lines n t f lines is = record {
  head = record lines.head { fields = lines.head.fields ++ f ∷ [] };
  is = record {
    minor = lines.is.minor;
    digits = lines.is.digits;
    reason = lines.is.reason;
    fields = All-append IsField lines.head.fields (f ∷ []) lines.is.fields (All-cons IsField f [] is (All-nil IsField));
  };
  count = omega (arith, lines.count, length-append lines.head.fields (f ∷ []));
  bytes = ap (λ (x : List ℕ). x ++ print_field f) lines.bytes
      ∙ append_assoc (opening lines.head) (flat_map print_field lines.head.fields) (print_field f)
      ∙ ap (λ (x : List ℕ). opening lines.head ++ x) (sym (flat_map-append print_field lines.head.fields (f ∷ []) ∙ ap (λ (x : List ℕ). flat_map print_field lines.head.fields ++ x) (append-nil (print_field f))));
}

-- the first byte of a field line
name_begins : (n b : ℕ) (t : List ℕ) → is_token_byte b ≡ true → AreLines n t → InName (n + 1) (t ++ b ∷ [])
name_begins n b t is lines more w end all values =
    let f : Field = record { name = b ∷ more; raw = w; end = end } in
    subst (AreLines (n + 1)) (ap (λ (x : List ℕ). t ++ x) (regroup more w (print_end end)) ∙ push t b (more ++ 58 ∷ (w ++ print_end end)))
    (field_lines n t f lines (record { name = (omega arith, pass_more is_token_byte b more is all); raw = values }))
  where
    regroup : (m v e : List ℕ) → ((b ∷ m) ++ 58 ∷ v) ++ e ≡ b ∷ (m ++ 58 ∷ (v ++ e))
    regroup m v e = ap (λ (x : List ℕ). b ∷ x) (append_assoc m (58 ∷ v) e)

-- ---- the version and the code

-- what follows so many bytes of them
pub record IsOpening (bytes : List ℕ) : Type 0 where
  minor : ℕ
  digits : List ℕ
  small : minor ≤ 1
  three : length digits ≡ 3
  each : AllPass is_ascii_digit digits
  is : bytes ≡ print_version minor ++ 32 ∷ digits

minor_of : (b : ℕ) → ((b == 48) || (b == 49)) ≡ true → (minor : ℕ) × (minor ≤ 1) × (b ≡ 48 + minor)
minor_of b is = by_zero (b == 48) refl is
  where
    by_zero : (v : Bool) → (b == 48) ≡ v → (v || (b == 49)) ≡ true → (minor : ℕ) × (minor ≤ 1) × (b ≡ 48 + minor)
    by_zero true same all = (0, omega arith, eqb-true b 48 same)
    by_zero false same all = (1, omega arith, eqb-true b 49 all)

opening_is : (bytes : List ℕ) → IsOpeningFrom 0 bytes → IsOpening bytes
opening_is [] o = absurd (omega (arith, o))
opening_is (a ∷ []) o = absurd (omega (arith, o.1))
opening_is (a ∷ b ∷ []) o = absurd (omega (arith, o.1.1))
opening_is (a ∷ b ∷ c ∷ []) o = absurd (omega (arith, o.1.1.1))
opening_is (a ∷ b ∷ c ∷ d ∷ []) o = absurd (omega (arith, o.1.1.1.1))
opening_is (a ∷ b ∷ c ∷ d ∷ e ∷ []) o = absurd (omega (arith, o.1.1.1.1.1))
opening_is (a ∷ b ∷ c ∷ d ∷ e ∷ f ∷ []) o = absurd (omega (arith, o.1.1.1.1.1.1))
opening_is (a ∷ b ∷ c ∷ d ∷ e ∷ f ∷ g ∷ []) o = absurd (omega (arith, o.1.1.1.1.1.1.1))
opening_is (a ∷ b ∷ c ∷ d ∷ e ∷ f ∷ g ∷ h ∷ []) o = absurd (omega (arith, o.1.1.1.1.1.1.1.1))
opening_is (a ∷ b ∷ c ∷ d ∷ e ∷ f ∷ g ∷ h ∷ i ∷ []) o = absurd (omega (arith, o.1.1.1.1.1.1.1.1.1))
opening_is (a ∷ b ∷ c ∷ d ∷ e ∷ f ∷ g ∷ h ∷ i ∷ j ∷ []) o = absurd (omega (arith, o.1.1.1.1.1.1.1.1.1.1))
opening_is (a ∷ b ∷ c ∷ d ∷ e ∷ f ∷ g ∷ h ∷ i ∷ j ∷ k ∷ []) o = absurd (omega (arith, o.1.1.1.1.1.1.1.1.1.1.1))
opening_is (a ∷ b ∷ c ∷ d ∷ e ∷ f ∷ g ∷ h ∷ i ∷ j ∷ k ∷ l ∷ []) o =
    let m = minor_of h o.1.1.1.1.1.1.1.0 in
    record {
      minor = m.0;
      digits = j ∷ k ∷ l ∷ [];
      small = m.1;
      three = refl;
      each = pass_more is_ascii_digit j (k ∷ l ∷ []) o.1.1.1.1.1.1.1.1.1.0 (pass_more is_ascii_digit k (l ∷ []) o.1.1.1.1.1.1.1.1.1.1.0 (pass_more is_ascii_digit l [] o.1.1.1.1.1.1.1.1.1.1.1.0 (pass_none is_ascii_digit)));
      is = cc (eqb-true a 72 o.0, eqb-true b 84 o.1.0, eqb-true c 84 o.1.1.0, eqb-true d 80 o.1.1.1.0, eqb-true e 47 o.1.1.1.1.0, eqb-true f 49 o.1.1.1.1.1.0, eqb-true g 46 o.1.1.1.1.1.1.0, m.2, eqb-true i 32 o.1.1.1.1.1.1.1.1.0);
    }
opening_is (a ∷ b ∷ c ∷ d ∷ e ∷ f ∷ g ∷ h ∷ i ∷ j ∷ k ∷ l ∷ z ∷ more) o = absurd (too_long 13 more (omega arith) o.1.1.1.1.1.1.1.1.1.1.1.1.1)
  where
    too_long : (at : ℕ) (bytes : List ℕ) → 12 < at → IsOpeningFrom at bytes → ⊥
    too_long at [] long o = omega (arith, long, o)
    too_long at (b ∷ bytes) long o = too_long (at + 1) bytes (omega (arith, long)) o.1

-- after blank lines
blank_opening : (ends : List LineEnd) (t : List ℕ) → t ≡ print_blank ends → InOpening 0 0 t
blank_opening ends t is bytes o reason end all =
    let p = opening_is bytes o in
    record {
      head = record { blank = ends; minor = p.minor; digits = p.digits; reason = reason; line_end = end; fields = []; last = lf };
      is = record { minor = p.small; digits = (p.three, p.each); reason = all; fields = All-nil IsField };
      count = refl;
      bytes = (λ i. (is i ++ p.is i) ++ (print_reason reason ++ print_end end)) ∙ regroup (print_blank ends) (print_version p.minor) p.digits (print_reason reason) (print_end end);
    }
  where
    cons_append : (x : ℕ) (a b : List ℕ) → (x ∷ a) ++ b ≡ x ∷ (a ++ b)
    cons_append x a b = refl

    regroup : (a v d r e : List ℕ) → (a ++ (v ++ 32 ∷ d)) ++ (r ++ e) ≡ (a ++ ((v ++ 32 ∷ (d ++ r)) ++ e)) ++ []
    regroup a v d r e = simp (append_assoc, append-nil, cons_append)

-- one byte more of them
opening_step : (at n b : ℕ) (t : List ℕ) → at < 12 → n ≤ 128 → InOpening at n t → Good (reached (in_opening at b) n) (t ++ b ∷ [])
opening_step at n b t small few still = by_fit (fits_opening at b) refl
  where
    by_last : (v : Bool) → nat_lt at 11 ≡ v → fits_opening at b ≡ true → Good (reached (cond v (Opening (at + 1)) Code) n) (t ++ b ∷ [])
    by_last true less fits = (few, (omega (arith, ltb-true at 11 less), λ bytes o. subst (BehindCode n) (push t b bytes) (still (b ∷ bytes) (fits, o))))
    by_last false last fits = (few, still (b ∷ []) (fits, omega (arith, small, ltb-false at 11 last)))

    by_fit : (v : Bool) → fits_opening at b ≡ v → Good (reached (cond v (cond (nat_lt at 11) (Opening (at + 1)) Code) Settled) n) (t ++ b ∷ [])
    by_fit true fits = by_last (nat_lt at 11) refl fits
    by_fit false fits = (few, tt)

-- ---- blank lines

blank_more : (ends : List LineEnd) (end : LineEnd) → print_blank (ends ++ end ∷ []) ≡ print_blank ends ++ print_end end
blank_more ends end = flat_map-append print_end ends (end ∷ []) ∙ ap (λ (x : List ℕ). print_blank ends ++ x) (append-nil (print_end end))

blank_step : (b : ℕ) (ends : List LineEnd) (t : List ℕ) → t ≡ print_blank ends → Good (reached (step Blank b) 0) (t ++ b ∷ [])
blank_step b ends t is = by_return (b == 13) refl
  where
    by_feed : (v : Bool) → (b == 10) ≡ v → Good (reached (cond v Blank (in_opening 0 b)) 0) (t ++ b ∷ [])
    by_feed true same = (omega arith, (refl, (ends ++ lf ∷ [], (λ i. is i ++ eqb-true b 10 same i ∷ []) ∙ sym (blank_more ends lf))))
    by_feed false same = opening_step 0 0 b t (omega arith) (omega arith) (blank_opening ends t is)

    by_return : (v : Bool) → (b == 13) ≡ v → Good (reached (cond v BlankReturn (cond (b == 10) Blank (in_opening 0 b))) 0) (t ++ b ∷ [])
    by_return true same = (omega arith, (refl, (ends, λ i. is i ++ eqb-true b 13 same i ∷ [])))
    by_return false same = by_feed (b == 10) refl

blank_return_step : (b : ℕ) (ends : List LineEnd) (t : List ℕ) → t ≡ print_blank ends ++ 13 ∷ [] → Good (reached (step BlankReturn b) 0) (t ++ b ∷ [])
blank_return_step b ends t is = by_feed (b == 10) refl
  where
    by_feed : (v : Bool) → (b == 10) ≡ v → Good (reached (cond v Blank Settled) 0) (t ++ b ∷ [])
    by_feed true same = (omega arith, (refl, (ends ++ crlf ∷ [], (λ i. is i ++ eqb-true b 10 same i ∷ []) ∙ append_assoc (print_blank ends) (13 ∷ []) (10 ∷ []) ∙ sym (blank_more ends crlf))))
    by_feed false same = (omega arith, tt)

-- ---- any byte

spot_step : (s : Spot) (n b : ℕ) (t : List ℕ) → n ≤ 128 → Stands s n t → Good (reached (step s b) n) (t ++ b ∷ [])
spot_step Blank n b t few st = subst (λ (k : ℕ). Good (reached (step Blank b) k) (t ++ b ∷ [])) (sym st.0) (blank_step b st.1.0 t st.1.1)
spot_step BlankReturn n b t few st = subst (λ (k : ℕ). Good (reached (step BlankReturn b) k) (t ++ b ∷ [])) (sym st.0) (blank_return_step b st.1.0 t st.1.1)
spot_step (Opening at) n b t few st = opening_step at n b t st.0 few st.1
spot_step Code n b t few st = code_step n b t few st
spot_step Text n b t few st = text_step n b t few st
spot_step Return n b t few st = return_step n b t few st
spot_step Line n b t few st = line_step n b t few st
spot_step Name n b t few st = name_step n b t few st
spot_step LastReturn n b t few st = (few, tt)
spot_step Settled n b t few st = (few, tt)

good_step : (r : Reached) (b : ℕ) (t : List ℕ) → Good r t → Good (after r b) (t ++ b ∷ [])
good_step r b t g = by_line r.spot r.fields g.0 g.1
  where
    by_name : (n : ℕ) (room token : Bool) → nat_lt n 128 ≡ room → is_token_byte b ≡ token → n ≤ 128 → AreLines n t
        → Good (cond (room && token) (reached Name (n + 1)) (reached (step Line b) n)) (t ++ b ∷ [])
    by_name n true true room token few lines = (omega (arith, ltb-true n 128 room), name_begins n b t token lines)
    by_name n true false room token few lines = line_step n b t few lines
    by_name n false token room is few lines = line_step n b t few lines

    by_line : (s : Spot) (n : ℕ) → n ≤ 128 → Stands s n t → Good (after (reached s n) b) (t ++ b ∷ [])
    by_line Line n few st = by_name n (nat_lt n 128) (is_token_byte b) refl refl few st
    by_line s n few st = spot_step s n b t few st

start_good : Good start []
start_good = (omega arith, (refl, ([], refl)))

all_good : (r : Reached) (front bytes : List ℕ) → Good r front → Good (fold after r bytes) (front ++ bytes)
all_good r front [] g = subst (Good r) (sym (append-nil front)) g
all_good r front (b ∷ bytes) g =
    subst (Good (fold after (after r b) bytes)) (sym (push front b bytes)) (all_good (after r b) (front ++ b ∷ []) bytes (good_step r b front g))

pub bytes_good : (bytes : List ℕ) → Good (after_all bytes) bytes
bytes_good bytes = all_good start [] bytes start_good

-- ---- bytes that make it a head

-- lines that go on after the text
lines_front : (n : ℕ) (t more : List ℕ) → n ≤ 128 → AreLines n (t ++ more) → IsFrontOfHead t
lines_front n t more few lines =
    let head : ResponseHead = record lines.head { last = lf } in
    record {
      more = more ++ 10 ∷ [];
      some = omega (arith, length-append more (10 ∷ []));
      head = head;
      reads = (
        record { minor = lines.is.minor; digits = lines.is.digits; reason = lines.is.reason; fields = lines.is.fields },
        sym (append_assoc t more (10 ∷ [])) ∙ ap (λ (x : List ℕ). x ++ 10 ∷ []) lines.bytes ∙ whole head,
      );
      few = omega (arith, lines.count, few);
    }
  where
    whole : (h : ResponseHead) → (opening h ++ flat_map print_field h.fields) ++ print_end h.last ≡ print_response h ++ []
    whole h =
        regroup (print_blank h.blank) (status_line h) (flat_map print_field h.fields) (print_end h.last)
        ∙ sym (head_split h) ∙ sym (append-nil (print_response h))
      where
        regroup : (a s f e : List ℕ) → ((a ++ s) ++ f) ++ e ≡ a ++ (s ++ (f ++ e))
        regroup a s f e = simp append_assoc

return_front : (n : ℕ) (t u : List ℕ) → t ≡ u ++ 13 ∷ [] → n ≤ 128 → AreLines n u → IsFrontOfHead t
return_front n t u is few lines =
    let head : ResponseHead = record lines.head { last = crlf } in
    record {
      more = 10 ∷ [];
      some = omega arith;
      head = head;
      reads = (
        record { minor = lines.is.minor; digits = lines.is.digits; reason = lines.is.reason; fields = lines.is.fields },
        ap (λ (x : List ℕ). x ++ 10 ∷ []) is ∙ append_assoc u (13 ∷ []) (10 ∷ []) ∙ ap (λ (x : List ℕ). x ++ 13 ∷ 10 ∷ []) lines.bytes ∙ whole head,
      );
      few = omega (arith, lines.count, few);
    }
  where
    whole : (h : ResponseHead) → (opening h ++ flat_map print_field h.fields) ++ print_end h.last ≡ print_response h ++ []
    whole h =
        regroup (print_blank h.blank) (status_line h) (flat_map print_field h.fields) (print_end h.last)
        ∙ sym (head_split h) ∙ sym (append-nil (print_response h))
      where
        regroup : (a s f e : List ℕ) → ((a ++ s) ++ f) ++ e ≡ a ++ (s ++ (f ++ e))
        regroup a s f e = simp append_assoc

code_front : (n : ℕ) (t more : List ℕ) → n ≤ 128 → BehindCode n (t ++ more) → IsFrontOfHead t
code_front n t more few code =
    lines_front n t (more ++ 10 ∷ []) few (subst (AreLines n) (append_assoc t more (10 ∷ [])) (code None lf (pass_none is_value_byte)))

-- a byte that fits
some_fits : (at : ℕ) → (b : ℕ) × (fits_opening at b ≡ true)
some_fits at = by_small (nat_lt at 7) refl
  where
    by_space : (v : Bool) → (at == 8) ≡ v → (b : ℕ) × (cond v (b == 32) (is_ascii_digit b) ≡ true)
    by_space true is = (32, refl)
    by_space false is = (48, refl)

    by_minor : (v : Bool) → (at == 7) ≡ v → (b : ℕ) × (cond v ((b == 48) || (b == 49)) (cond (at == 8) (b == 32) (is_ascii_digit b)) ≡ true)
    by_minor true is = (48, refl)
    by_minor false is = by_space (at == 8) refl

    by_small : (v : Bool) → nat_lt at 7 ≡ v
        → (b : ℕ) × (cond v (b == slice_index (codes "HTTP/1.") at) (cond (at == 7) ((b == 48) || (b == 49)) (cond (at == 8) (b == 32) (is_ascii_digit b))) ≡ true)
    by_small true is = (slice_index (codes "HTTP/1.") at, eq-eqb _ _ refl)
    by_small false is = by_minor (at == 7) refl

some_opening : (left at : ℕ) → at + left ≡ 12 → (bytes : List ℕ) × IsOpeningFrom at bytes
some_opening zero at is = ([], omega (arith, is))
some_opening (suc left) at is =
    let b = some_fits at in
    let rest = some_opening left (at + 1) (omega (arith, is)) in
    (b.0 ∷ rest.0, (b.1, rest.1))

opening_front : (at n : ℕ) (t more : List ℕ) → at ≤ 12 → n ≤ 128 → InOpening at n (t ++ more) → IsFrontOfHead t
opening_front at n t more small few still =
    let rest = some_opening (12 - at) at (omega (arith, small)) in
    code_front n t (more ++ rest.0) few (subst (BehindCode n) (append_assoc t more rest.0) (still rest.0 rest.1))

-- while nothing is settled, the text is a proper prefix of a head
stands_front : (s : Spot) (n : ℕ) (t : List ℕ) → n ≤ 128 → is_settled s ≡ false → Stands s n t → IsFrontOfHead t
stands_front Blank n t few still st =
    opening_front 0 0 t [] (omega arith) (omega arith) (subst (InOpening 0 0) (sym (append-nil t)) (blank_opening st.1.0 t st.1.1))
stands_front BlankReturn n t few still st =
    opening_front 0 0 t (10 ∷ []) (omega arith) (omega arith)
    (blank_opening (st.1.0 ++ crlf ∷ []) (t ++ 10 ∷ []) (ap (λ (x : List ℕ). x ++ 10 ∷ []) st.1.1 ∙ append_assoc (print_blank st.1.0) (13 ∷ []) (10 ∷ []) ∙ sym (blank_more st.1.0 crlf)))
stands_front (Opening at) n t few still st =
    opening_front at n t [] (omega (arith, st.0)) few (subst (InOpening at n) (sym (append-nil t)) st.1)
stands_front Code n t few still st = code_front n t [] few (subst (BehindCode n) (sym (append-nil t)) st)
stands_front Text n t few still st = lines_front n t (10 ∷ []) few (st [] lf (pass_none is_value_byte))
stands_front Return n t few still st = lines_front n t (10 ∷ []) few st
stands_front Line n t few still st = lines_front n t [] few (subst (AreLines n) (sym (append-nil t)) st)
stands_front Name n t few still st =
    lines_front n t (58 ∷ 10 ∷ []) few (st [] [] lf (pass_none is_token_byte) (pass_none is_value_byte))
stands_front LastReturn n t few still st = return_front n t st.0 st.1 few st.2
stands_front Settled n t few still st = absurd (cc)

pub open_front : (text : List ℕ) → is_settled (after_all text).spot ≡ false → IsFrontOfHead text
open_front text still = stands_front (after_all text).spot (after_all text).fields text (bytes_good text).0 still (bytes_good text).1

-- ---- more bytes after the text

pub scanned_stays : (text more : List ℕ) (scan : HeadScan) → HasScanned text scan → HasScanned (text ++ more) scan
scanned_stays text more scan s = record {
  within = omega (arith, s.within, length-append text more);
  there = ap after_all (take-append-le scan.read text more s.within) ∙ s.there;
}
