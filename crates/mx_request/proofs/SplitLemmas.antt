-- Lists of bytes that are split at a byte or at CR LF.
use Rattle.std.proofs.Common.{◌≡◌, ℕ, Bool, true, false, ◌&&◌, List, [], ◌∷◌, ◌++◌, refl, sym, ap, ◌∙◌, subst, inl, inr, ◌⊎◌, ⊎_elim, append_assoc}
use Rattle.std.specs.Prelude.{flat_map}
use Rattle.std.specs.List.{list_all, AllByRecursion}
use Rattle.std.proofs.lemmas.Bool.{and_parts, both_ways, false≢true}
use Rattle.std.proofs.lemmas.List.Folds.{list_all-append}
use Rattle.mx_request.specs.RequestBytes.{crlf, ended}
use Rattle.mx_request.specs.Fields.{is_value_byte}
use Rattle.mx_request.specs.Laws.{IsOneLine}

-- the byte that parts two lists does not pass the test that the bytes before it do
pub split_at : (p : ℕ → Bool) (c : ℕ) → p c ≡ false → (l m r s : List ℕ) → list_all p l ≡ true → list_all p m ≡ true → l ++ c ∷ r ≡ m ++ c ∷ s → (l ≡ m) × (r ≡ s)
split_at p c stops [] [] r s hl hm e = (refl, cc)
split_at p c stops [] (y ∷ m) r s hl hm e =
    let same : c ≡ y = cc in absurd (both_ways (p c) stops (rw same (and_parts (p y) _ hm).0))
split_at p c stops (x ∷ l) [] r s hl hm e =
    let same : c ≡ x = cc in absurd (both_ways (p c) stops (rw same (and_parts (p x) _ hl).0))
split_at p c stops (x ∷ l) (y ∷ m) r s hl hm e =
    let rest : l ++ c ∷ r ≡ m ++ c ∷ s = cc in
    let same : x ≡ y = cc in
    let more = split_at p c stops l m r s (and_parts (p x) _ hl).1 (and_parts (p y) _ hm).1 rest in
    (cc (same, more.0), more.1)

-- the list has an element
abbrev pub is_begun : List ℕ → Bool
is_begun [] = false
is_begun (x ∷ xs) = true

-- a line that is not empty, of bytes that a value may have
abbrev pub is_line : List ℕ → Bool
is_line line = is_begun line && list_all is_value_byte line

pub ended-append : (line : List ℕ) (lines : List (List ℕ)) (rest : List ℕ) → flat_map ended (line ∷ lines) ++ rest ≡ line ++ 13 ∷ 10 ∷ (flat_map ended lines ++ rest)
ended-append line lines rest =
    append_assoc (line ++ crlf) (flat_map ended lines) rest ∙ append_assoc line crlf (flat_map ended lines ++ rest)

no_empty_line_first : (l : List ℕ) (rest more : List ℕ) → is_line l ≡ true → 13 ∷ more ≡ l ++ rest → ⊥
no_empty_line_first [] rest more line e = false≢true line
no_empty_line_first (x ∷ l) rest more line e =
    let same : 13 ≡ x = cc in
    let passes = (and_parts (is_value_byte x) _ line).0 in
    false≢true (subst (λ b. is_value_byte b ≡ true) (sym same) passes)

-- lines, an empty line and what follows are read in one way
pub lines_and_body : (ls ms : List (List ℕ)) (b d : List ℕ) → list_all is_line ls ≡ true → list_all is_line ms ≡ true → flat_map ended ls ++ (crlf ++ b) ≡ flat_map ended ms ++ (crlf ++ d) → (ls ≡ ms) × (b ≡ d)
lines_and_body [] [] b d hl hm e = (refl, cc)
lines_and_body [] (m ∷ ms) b d hl hm e =
    absurd (no_empty_line_first m _ _ (and_parts (is_line m) _ hm).0 (e ∙ ended-append m ms (crlf ++ d)))
lines_and_body (l ∷ ls) [] b d hl hm e =
    absurd (no_empty_line_first l _ _ (and_parts (is_line l) _ hl).0 (sym e ∙ ended-append l ls (crlf ++ b)))
lines_and_body (l ∷ ls) (m ∷ ms) b d hl hm e =
    let first = and_parts (is_line l) _ hl in
    let other = and_parts (is_line m) _ hm in
    let parted = split_at is_value_byte 13 refl l m _ _ (and_parts (is_begun l) _ first.0).1 (and_parts (is_begun m) _ other.0).1 (sym (ended-append l ls (crlf ++ b)) ∙ e ∙ ended-append m ms (crlf ++ d)) in
    let rest : flat_map ended ls ++ (crlf ++ b) ≡ flat_map ended ms ++ (crlf ++ d) = cc (parted.1) in
    let more = lines_and_body ls ms b d first.1 other.1 rest in
    (cc (parted.0, more.0), more.1)

-- where CR LF is in a line, its CR LF and what follows: at the line's end, or in what follows
pub after_line : (l before R S : List ℕ) → list_all is_value_byte l ≡ true → l ++ 13 ∷ 10 ∷ R ≡ before ++ 13 ∷ 10 ∷ S → (R ≡ S) ⊎ ((rest : List ℕ) × (R ≡ rest ++ 13 ∷ 10 ∷ S))
after_line [] [] R S hl e = inl cc
after_line [] (y ∷ []) R S hl e = cc
after_line [] (y ∷ z ∷ b) R S hl e = inr (b, cc)
after_line (x ∷ l) [] R S hl e =
    let same : 13 ≡ x = cc in
    absurd (false≢true (subst (λ b. is_value_byte b ≡ true) (sym same) (and_parts (is_value_byte x) _ hl).0))
after_line (x ∷ l) (y ∷ b) R S hl e =
    after_line l b R S (and_parts (is_value_byte x) _ hl).1 cc

first_is_not_empty : (ls : List (List ℕ)) (after : List ℕ) → list_all is_line ls ≡ true → flat_map ended ls ++ crlf ≡ 13 ∷ 10 ∷ after → after ≡ []
first_is_not_empty [] after hl e = cc
first_is_not_empty (l ∷ ls) after hl e =
    absurd (no_empty_line_first l _ _ (and_parts (is_line l) _ hl).0 (sym e ∙ ended-append l ls crlf))

-- CR LF CR LF is only at the end
pub ends_once : (ls : List (List ℕ)) (before after : List ℕ) → list_all is_line ls ≡ true → flat_map ended ls ++ crlf ≡ before ++ (crlf ++ (crlf ++ after)) → after ≡ []
ends_once [] [] after hl e = cc
ends_once [] (x ∷ []) after hl e = cc
ends_once [] (x ∷ y ∷ []) after hl e = cc
ends_once [] (x ∷ y ∷ z ∷ b) after hl e = cc
ends_once (l ∷ ls) before after hl e =
    let parts = and_parts (is_line l) _ hl in
    ⊎_elim
    (λ ends. first_is_not_empty ls after parts.1 ends)
    (λ later. ends_once ls later.0 after parts.1 later.1)
    (after_line l before (flat_map ended ls ++ crlf) (crlf ++ after) (and_parts (is_begun l) _ parts.0).1 (sym (ended-append l ls crlf) ∙ e))

-- a line of bytes that a value may have is one line
pub one_line : (line : List ℕ) → list_all is_value_byte line ≡ true → IsOneLine line
one_line line clean before after e =
    let all = sym (list_all-append is_value_byte before (crlf ++ after)) ∙ ap (list_all is_value_byte) (sym e) ∙ clean in
    false≢true (and_parts (list_all is_value_byte before) _ all).1

later_line : (x : ℕ) (line : List ℕ) → IsOneLine (x ∷ line) → IsOneLine line
later_line x line one before after e = one (x ∷ before) after (ap (λ rest. x ∷ rest) e)

-- a line that goes on at CR LF holds it
crlf_inside : (a : ℕ) (x F G : List ℕ) → IsOneLine (a ∷ x) → a ∷ (x ++ 13 ∷ 10 ∷ F) ≡ 13 ∷ 10 ∷ G → ⊥
crlf_inside a [] F G one e = cc
crlf_inside a (b ∷ x) F G one e = let starts : a ∷ b ∷ x ≡ 13 ∷ 10 ∷ x = cc in one [] x starts

no_end_first : (y : ℕ) (l rest more : List ℕ) → list_all is_value_byte (y ∷ l) ≡ true → 13 ∷ more ≡ y ∷ rest → ⊥
no_end_first y l rest more hl e =
    let same : 13 ≡ y = cc in
    false≢true (subst (λ b. is_value_byte b ≡ true) (sym same) (and_parts (is_value_byte y) _ hl).0)

same_line : (x l F G : List ℕ) → IsOneLine x → list_all is_value_byte l ≡ true → x ++ 13 ∷ 10 ∷ F ≡ l ++ 13 ∷ 10 ∷ G → (x ≡ l) × (F ≡ G)
same_line [] [] F G one hl e = (refl, cc)
same_line [] (y ∷ l) F G one hl e = absurd (no_end_first y l _ _ hl e)
same_line (a ∷ x) [] F G one hl e = absurd (crlf_inside a x F G one e)
same_line (a ∷ x) (y ∷ l) F G one hl e =
    let rest : x ++ 13 ∷ 10 ∷ F ≡ l ++ 13 ∷ 10 ∷ G = cc in
    let same : a ≡ y = cc in
    let more = same_line x l F G (later_line a x one) (and_parts (is_value_byte y) _ hl).1 rest in
    (cc (same, more.0), more.1)

not_nothing : (l : List ℕ) (rest : List ℕ) → [] ≡ l ++ 13 ∷ rest → ⊥
not_nothing [] rest e = cc
not_nothing (x ∷ l) rest e = cc

-- lines of bytes that a value may have are read in one way
pub lines_only : (xs ls : List (List ℕ)) → AllByRecursion IsOneLine xs → list_all (λ line. list_all is_value_byte line) ls ≡ true → flat_map ended xs ≡ flat_map ended ls → xs ≡ ls
lines_only [] [] one hl e = refl
lines_only [] (l ∷ ls) one hl e = absurd (not_nothing l _ (e ∙ append_assoc l crlf (flat_map ended ls)))
lines_only (x ∷ xs) [] one hl e = absurd (not_nothing x _ (sym e ∙ append_assoc x crlf (flat_map ended xs)))
lines_only (x ∷ xs) (l ∷ ls) one hl e =
    let parts = and_parts (list_all is_value_byte l) _ hl in
    let parted = same_line x l _ _ one.0 parts.0 (sym (append_assoc x crlf (flat_map ended xs)) ∙ e ∙ append_assoc l crlf (flat_map ended ls)) in
    let more = lines_only xs ls one.1 parts.1 parted.1 in
    cc (parted.0, more)
