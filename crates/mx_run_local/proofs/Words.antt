-- The words of a line, and what they name.
use Rattle.std.proofs.Common.{◌≡◌, ℕ, ◌+◌, ◌*◌, ◌-◌, ◌≤◌, ◌<◌, get_or, ◌∙◌, sym, refl, ap, subst, List, [], ◌∷◌, length, take, drop, Bool, true, false, cond, arith}
use Rattle.std.specs.Prelude.{zero, suc, not, nat_eq, nat_le, ◌==◌, ◌&&◌, if◌then◌else◌, Option, Some, None, nat_lt, fold}
use Rattle.std.specs.List.{find, list_all, position, position_or_len}
use Rattle.std.specs.Str.{IsUtf8, IsAscii}
use Rattle.std.specs.Cmp.Lexicographic.{pointwise, bytes_decides}
use Rattle.std.proofs.lemmas.Str.{IsUtf8-from_ascii}
use Rattle.std.proofs.lemmas.Str.Ascii.{IsAscii-nil, IsAscii-cons}
use Rattle.std.proofs.lemmas.Bool.{false≢true, eqb-true, ltb-true, false_from_ne_true, and_parts}
use Rattle.std.proofs.lemmas.Bool.Decides.{nat_tests}
use Rattle.mx_types.specs.Code.{code_number}
use Rattle.mx_types.specs.declared.code.Code.{Code}
use Rattle.mx_types.specs.declared.code.Code.TheVariants as code
use Rattle.mx_run_local.specs.declared.script.Name.{Name}
use Rattle.mx_run_local.specs.declared.script.Name.TheVariants as name
use Rattle.mx_run_local.specs.Script.{pieces, onto_first, IsNameOf, IsCodeOf, named, coded, name_text, names, all_codes, is_scripted, number_of, is_numeral, value_of, is_silent, line_of, retire_or_bad, call_or, call_of, call_with, words_of}
use Rattle.mx_types.specs.declared.call.Call.{Call}
use Rattle.mx_run_local.specs.declared.script.Line.TheVariants as line

-- a search that no element passes
find_none : {X : Type 0} (test : X → Bool) → ((x : X) → test x ≡ false) → (xs : List X) → find test xs ≡ None
find_none test nots [] = refl
find_none test nots (x ∷ xs) = ap (λ b. cond b (Some x) (find test xs)) (nots x) ∙ find_none test nots xs

ascii : (bs : List ℕ) → list_all (λ b. nat_lt b 128) bs ≡ true → IsAscii bs
ascii [] h = IsAscii-nil
ascii (b ∷ bs) h = go (nat_lt b 128) refl h (ascii bs) where
  go : (t : Bool) → nat_lt b 128 ≡ t → (t && list_all (λ x. nat_lt x 128) bs) ≡ true
      → (list_all (λ x. nat_lt x 128) bs ≡ true → IsAscii bs) → IsAscii (b ∷ bs)
  go true e h r = IsAscii-cons b bs (ltb-true b 128 e) (r h)
  go false e h r = absurd (false≢true h)

plain_text : (bs : List ℕ) → list_all (λ b. nat_lt b 128) bs ≡ true → IsUtf8 bs
plain_text bs h = IsUtf8-from_ascii bs (ascii bs h)

utf8_name : (n : Name) → IsUtf8 (name_text n)
utf8_name name.Add = plain_text (name_text name.Add) refl
utf8_name name.Remove = plain_text (name_text name.Remove) refl
utf8_name name.Pause = plain_text (name_text name.Pause) refl
utf8_name name.Unpause = plain_text (name_text name.Unpause) refl
utf8_name name.Read = plain_text (name_text name.Read) refl
utf8_name name.Wakeup = plain_text (name_text name.Wakeup) refl
utf8_name name.Poll = plain_text (name_text name.Poll) refl
utf8_name name.Done = plain_text (name_text name.Done) refl
utf8_name name.Handles = plain_text (name_text name.Handles) refl
utf8_name name.Running = plain_text (name_text name.Running) refl
utf8_name name.State = plain_text (name_text name.State) refl

named_text : (n : Name) → Some n ≡ named (name_text n)
unfolding named
named_text name.Add = refl
named_text name.Remove = refl
named_text name.Pause = refl
named_text name.Unpause = refl
named_text name.Read = refl
named_text name.Wakeup = refl
named_text name.Poll = refl
named_text name.Done = refl
named_text name.Handles = refl
named_text name.Running = refl
named_text name.State = refl

nameless : (word : List ℕ) → IsNameOf word None → None ≡ named word
unfolding named
nameless word nots =
    sym (find_none (λ n. pointwise nat_eq (name_text n) word) (λ n. false_from_ne_true _ (λ e. nots n (sym ((bytes_decides _ _).0 e)))) names)

pub named_is : (word : List ℕ) (o : Option Name) → IsNameOf word o → o ≡ named word
named_is word (Some n) is = named_text n ∙ ap named (sym is)
named_is word None is = nameless word is

pub not_named : (word : List ℕ) → (IsUtf8 word → ⊥) → None ≡ named word
not_named word nots = nameless word (λ n e. nots (subst IsUtf8 (sym e) (utf8_name n)))

coded_number : (c : Code) → is_scripted c ≡ true → Some c ≡ coded (code_number c)
unfolding coded
coded_number code.Ok is = refl
coded_number code.UnsupportedProtocol is = refl
coded_number code.UrlMalformat is = refl
coded_number code.CouldntResolveHost is = refl
coded_number code.CouldntConnect is = refl
coded_number code.WeirdServerReply is = refl
coded_number code.PartialFile is = refl
coded_number code.WriteError is = let x : false ≡ true = is in cc
coded_number code.OutOfMemory is = refl
coded_number code.OperationTimedout is = refl
coded_number code.TooManyRedirects is = refl
coded_number code.GotNothing is = refl
coded_number code.SendError is = refl
coded_number code.RecvError is = refl
coded_number code.BadContentEncoding is = refl
coded_number code.FilesizeExceeded is = refl
coded_number code.TooLarge is = refl

codeless : (number : ℕ) → IsCodeOf number None → None ≡ coded number
unfolding coded
codeless number nots =
    sym (find_none (λ c. is_scripted c && (code_number c == number))
    (λ c. false_from_ne_true _ (λ e. let both = and_parts _ _ e in nots c both.0 (sym (eqb-true _ _ both.1)))) all_codes)

pub coded_is : (number : ℕ) (o : Option Code) → IsCodeOf number o → o ≡ coded number
coded_is number (Some c) is = coded_number c is.0 ∙ ap coded (sym is.1)
coded_is number None is = codeless number is

-- a text is cut at the first byte c
pub uncut : (c : ℕ) (bs : List ℕ) → nat_lt (position_or_len (λ b. b == c) bs) (length bs) ≡ false → pieces c bs ≡ bs ∷ []
uncut c [] h = refl
uncut c (b ∷ bs) h = go (b == c) h (uncut c bs) where
  m : ℕ
  m = position_or_len (λ x. x == c) bs

  go : (t : Bool) → nat_lt (cond (not t) (1 + m) 0) (suc (length bs)) ≡ false → (nat_lt m (length bs) ≡ false → pieces c bs ≡ bs ∷ [])
      → cond t ([] ∷ pieces c bs) (onto_first b (pieces c bs)) ≡ (b ∷ bs) ∷ []
  go true h r = let lt : nat_lt 0 (suc (length bs)) ≡ true = grind (arith, nat_tests) in absurd (false≢true (sym h ∙ lt))
  go false h r = let e : nat_lt m (length bs) ≡ nat_lt (1 + m) (suc (length bs)) = grind (arith, nat_tests) in ap (onto_first b) (r (e ∙ h))

pub cut : (c : ℕ) (bs : List ℕ) → nat_lt (position_or_len (λ b. b == c) bs) (length bs) ≡ true
    → pieces c bs ≡ take (position_or_len (λ b. b == c) bs) bs ∷ pieces c (drop (position_or_len (λ b. b == c) bs + 1) bs)
cut c [] h = absurd (false≢true h)
cut c (b ∷ bs) h = go (b == c) h (cut c bs) where
  m : ℕ
  m = position_or_len (λ x. x == c) bs

  go : (t : Bool) → nat_lt (cond (not t) (1 + m) 0) (suc (length bs)) ≡ true
      → (nat_lt m (length bs) ≡ true → pieces c bs ≡ take m bs ∷ pieces c (drop (m + 1) bs))
      → cond t ([] ∷ pieces c bs) (onto_first b (pieces c bs))
      ≡ take (cond (not t) (1 + m) 0) (b ∷ bs) ∷ pieces c (drop (cond (not t) (1 + m) 0 + 1) (b ∷ bs))
  go true h r = refl
  go false h r =
      let lt : nat_lt m (length bs) ≡ nat_lt (1 + m) (suc (length bs)) = grind (arith, nat_tests) in
      let e : 1 + m ≡ suc m = omega arith in
      let f : suc m + 1 ≡ suc (m + 1) = omega arith in
      ap (onto_first b) (r (lt ∙ h)) ∙ ap (λ k. (b ∷ take m bs) ∷ pieces c (drop k (b ∷ bs))) (sym f)
      ∙ ap (λ k. take k (b ∷ bs) ∷ pieces c (drop (k + 1) (b ∷ bs))) (sym e)

-- there is a first piece
pub first_piece : (c : ℕ) (bs : List ℕ) → (piece : List ℕ) × (more : List (List ℕ)) × (pieces c bs ≡ piece ∷ more)
first_piece c [] = ([], [], refl)
first_piece c (b ∷ bs) = go (b == c) (first_piece c bs) where
  go : (t : Bool) → (piece : List ℕ) × (more : List (List ℕ)) × (pieces c bs ≡ piece ∷ more)
      → (piece : List ℕ) × (more : List (List ℕ)) × (cond t ([] ∷ pieces c bs) (onto_first b (pieces c bs)) ≡ piece ∷ more)
  go true r = ([], pieces c bs, refl)
  go false r = (b ∷ r.0, r.1, ap (onto_first b) r.2)

-- four words or more are no call
pub four_words : (n : Name) (ws : List (List ℕ)) (t k l more : List ℕ) → ws ≡ t ∷ k ∷ l ∷ words_of more → None ≡ call_with ws n
four_words n ws t k l more is =
    let r = first_piece 32 more in sym (ap (λ z. call_with z n) (is ∙ ap (λ z. t ∷ k ∷ l ∷ z) r.2))

-- the same, at what `position` answers
pub uncut_at : (c : ℕ) (bs : List ℕ) (o : Option ℕ) → o ≡ position (λ b. b == c) bs → o ≡ None → pieces c bs ≡ bs ∷ []
uncut_at c bs o is none = go (nat_lt m (length bs)) refl (sym none ∙ is) where
  m : ℕ
  m = position_or_len (λ b. b == c) bs

  go : (t : Bool) → nat_lt m (length bs) ≡ t → None ≡ cond t (Some m) None → pieces c bs ≡ bs ∷ []
  go true lt h = cc
  go false lt h = uncut c bs lt

pub cut_at : (c : ℕ) (bs : List ℕ) (o : Option ℕ) (at : ℕ) → o ≡ position (λ b. b == c) bs → o ≡ Some at
    → (pieces c bs ≡ take at bs ∷ pieces c (drop (at + 1) bs)) × (at + 1 ≤ length bs)
cut_at c bs o at is some = go (nat_lt m (length bs)) refl (sym some ∙ is) where
  m : ℕ
  m = position_or_len (λ b. b == c) bs

  go : (t : Bool) → nat_lt m (length bs) ≡ t → Some at ≡ cond t (Some m) None → (pieces c bs ≡ take at bs ∷ pieces c (drop (at + 1) bs)) × (at + 1 ≤ length bs)
  go false lt h = cc
  go true lt h =
      let e : m ≡ at = cc in
      let below : m + 1 ≤ length bs = omega (arith, ltb-true m (length bs) lt) in
      subst (λ k. (pieces c bs ≡ take k bs ∷ pieces c (drop (k + 1) bs)) × (k + 1 ≤ length bs)) e (cut c bs lt, below)

pub too_big : (v : ℕ) → 4294967295 < v → None ≡ (if nat_le v 4294967295 then Some v else None)
too_big v h = let e : nat_le v 4294967295 ≡ false = grind (arith, nat_tests) in sym (ap (λ b. cond b (Some v) None) e)

pub numeral_is : (n : ℕ) (t : Bool) → (n == 0) ≡ false → n ≤ 10 → t ≡ (nat_lt 0 n && nat_le n 10 && t)
numeral_is n t some few =
    let a : nat_lt 0 n ≡ true = grind (arith, nat_tests) in
    let b : nat_le n 10 ≡ true = grind (arith, nat_tests) in
    rw (a, b) refl

pub not_number : (word : List ℕ) → is_numeral word ≡ false → None ≡ number_of word
unfolding number_of
not_number word nots = sym (ap (λ b. cond (b && nat_le (value_of word) 4294967295) (Some (value_of word)) None) nots)

pub number_is : (word : List ℕ) → is_numeral word ≡ true → (if nat_le (value_of word) 4294967295 then Some (value_of word) else None) ≡ number_of word
unfolding number_of
number_is word does = sym (ap (λ b. cond (b && nat_le (value_of word) 4294967295) (Some (value_of word)) None) does)

pub silent_empty : (bs : List ℕ) → (length bs == 0) ≡ true → true ≡ is_silent bs
silent_empty [] h = refl
silent_empty (b ∷ bs) h = let e : suc (length bs) ≡ 0 = eqb-true (suc (length bs)) 0 h in let never : ⊥ = omega (arith, e) in absurd never

pub silent_first : (bs : List ℕ) → (length bs == 0) ≡ false → (get_or bs 0 0 == 35) ≡ is_silent bs
silent_first [] h = absurd (false≢true (sym h))
silent_first (b ∷ bs) h = refl

short : (n : ℕ) → n ≤ 64 → nat_lt 64 n ≡ false
short n h = grind (arith, nat_tests)

pub line_silent : (text : List ℕ) → length text ≤ 64 → is_silent text ≡ true → line.Silent ≡ line_of text
unfolding line_of
line_silent text few does =
    sym
    (ap (λ b. cond b line.Bad (cond (is_silent text) line.Silent (call_or (retire_or_bad text) (call_of (words_of text))))) (short _ few)
    ∙ ap (λ b. cond b line.Silent (call_or (retire_or_bad text) (call_of (words_of text)))) does)

pub line_other : (text : List ℕ) (o : Option Call) → length text ≤ 64 → is_silent text ≡ false → o ≡ call_of (words_of text) → call_or (retire_or_bad text) o ≡ line_of text
unfolding line_of
line_other text o few nots is =
    ap (call_or (retire_or_bad text)) is
    ∙ sym
    (ap (λ b. cond b line.Bad (cond (is_silent text) line.Silent (call_or (retire_or_bad text) (call_of (words_of text))))) (short _ few)
    ∙ ap (λ b. cond b line.Silent (call_or (retire_or_bad text) (call_of (words_of text)))) nots)

pub line_long : (text : List ℕ) → 64 < length text → line.Bad ≡ line_of text
unfolding line_of
line_long text long =
    let e : nat_lt 64 (length text) ≡ true = grind (arith, nat_tests) in
    sym (ap (λ b. cond b line.Bad (cond (is_silent text) line.Silent (call_or (retire_or_bad text) (call_of (words_of text))))) e)

-- the number of some digits is at most that of all
grows : (n : ℕ) (ds : List ℕ) → n ≤ fold (λ n digit. 10 * n + (digit - 48)) n ds
grows n [] = omega arith
grows n (d ∷ ds) = omega (arith, grows (10 * n + (d - 48)) ds)

pub value_grows : (n : ℕ) (ds : List ℕ) (i : ℕ) → fold (λ n digit. 10 * n + (digit - 48)) n (take i ds) ≤ fold (λ n digit. 10 * n + (digit - 48)) n ds
value_grows n [] zero = omega arith
value_grows n [] (suc i) = omega arith
value_grows n (d ∷ ds) zero = grows n (d ∷ ds)
value_grows n (d ∷ ds) (suc i) = value_grows (10 * n + (d - 48)) ds i
