-- The elements of a value, one at a time.
use Rattle.std.proofs.Common.{◌≡◌, ◌≢◌, ℕ, zero, suc, ◌+◌, ◌<◌, Bool, true, false, not, cond, ◌||◌, List, [], ◌∷◌, ◌++◌, map, length, get_or, take, drop, fold, refl, sym, ap, ◌∙◌, arith}
use Rattle.std.specs.Prelude.{codes, filter, slice_get, Some, ◌==◌}
use Rattle.std.proofs.lemmas.List.{at_drop_more}
use Rattle.std.specs.List.{list_any, slice_split, onto_first}
use Rattle.std.proofs.lemmas.Bool.{eq-eqb, ne_eqb}
use Rattle.std.proofs.lemmas.List.Sums.{fold-append}
use Rattle.httparse.specs.Ascii.{comma}
use Rattle.httparse.specs.Grammar.{trim_ows}
use Rattle.mx_head.specs.declared.types.Coding.TheVariants as coding
use Rattle.mx_head.specs.declared.fields.Seen.{Seen}
use Rattle.mx_head.specs.declared.fields.Seen.TheVariants.{Nothing, Blank, Chunked, Other}
use Rattle.mx_head.specs.Fields.{Line, elements_of, elements, same_word}
use Rattle.mx_head.specs.Framing.{is_blank, is_chunked_alone, has_word}
use Rattle.mx_head.specs.Summary.{coding_of}
use Rattle.mx_head.specs.Steps.{seen_after, seen_after_line, coding_seen}

abbrev commas : List ℕ → List (List ℕ)
commas value = slice_split (λ (b : ℕ). b == comma) value

-- up to the first comma, and on after it
cut_at : (xs : List ℕ) (i : ℕ) → i < length xs → get_or xs i 0 ≡ 44 → ((k : ℕ) → k < i → get_or xs k 0 ≢ 44) → commas xs ≡ take i xs ∷ commas (drop (suc i) xs)
cut_at [] i inside here before = absurd (omega arith)
cut_at (b ∷ bs) zero inside here before =
    ap (λ t. cond t ([] ∷ commas bs) (onto_first b (commas bs))) (eq-eqb b 44 here)
cut_at (b ∷ bs) (suc i) inside here before =
    ap (λ t. cond t ([] ∷ commas bs) (onto_first b (commas bs))) (ne_eqb b 44 (before 0 (omega arith)))
    ∙ ap (onto_first b) (cut_at bs i (omega arith) here (λ k below. before (suc k) (omega arith)))

not_cut : (xs : List ℕ) → ((k : ℕ) → k < length xs → get_or xs k 0 ≢ 44) → commas xs ≡ xs ∷ []
not_cut [] none = refl
not_cut (b ∷ bs) none =
    ap (λ t. cond t ([] ∷ commas bs) (onto_first b (commas bs))) (ne_eqb b 44 (none 0 (omega arith)))
    ∙ ap (onto_first b) (not_cut bs (λ k below. none (suc k) (omega arith)))

pub elements_at : (xs : List ℕ) (i : ℕ) → i < length xs → get_or xs i 0 ≡ 44 → ((k : ℕ) → k < i → get_or xs k 0 ≢ 44) → elements_of xs ≡ trim_ows (take i xs) ∷ elements_of (drop (suc i) xs)
unfolding elements_of
elements_at xs i inside comma before = ap (map trim_ows) (cut_at xs i inside comma before)

pub elements_whole : (xs : List ℕ) → ((k : ℕ) → k < length xs → get_or xs k 0 ≢ 44) → elements_of xs ≡ trim_ows xs ∷ []
unfolding elements_of
elements_whole xs none = ap (map trim_ows) (not_cut xs none)

-- ---- the lines of one name

fold_if : {X Y : Type 0} (f : Y → X → Y) (start : Y) (xs : List X) (t : Bool) → fold f start (cond t xs []) ≡ cond t (fold f start xs) start
fold_if f start xs false = refl
fold_if f start xs true = refl

pub fold_line : {Y : Type 0} (f : Y → List ℕ → Y) (a : Y) (name : List ℕ) (l : Line) (ls : List Line)
    → fold f a (elements name (l ∷ ls)) ≡ fold f (cond (same_word l.0 name) (fold f a (elements_of l.1)) a) (elements name ls)
fold_line f a name l ls =
    fold-append f a (cond (same_word l.0 name) (elements_of l.1) []) (elements name ls)
    ∙ ap (λ s. fold f s (elements name ls)) (fold_if f a (elements_of l.1) (same_word l.0 name))

any-append : {X : Type 0} (p : X → Bool) (xs ys : List X) → list_any p (xs ++ ys) ≡ (list_any p xs || list_any p ys)
any-append p [] ys = refl
any-append p (x ∷ xs) ys = by_test (p x) (any-append p xs ys)
  where
    by_test : (t : Bool) → list_any p (xs ++ ys) ≡ (list_any p xs || list_any p ys) → (t || list_any p (xs ++ ys)) ≡ ((t || list_any p xs) || list_any p ys)
    by_test true later = refl
    by_test false later = later

pub word_line : (seen : Bool) (word name : List ℕ) (l : Line) (ls : List Line)
    → (seen || has_word word (elements name (l ∷ ls)))
    ≡ (cond (same_word l.0 name) (seen || has_word word (elements_of l.1)) seen || has_word word (elements name ls))
word_line seen word name l ls =
    ap (λ t. seen || t) (any-append (λ e. same_word e word) (cond (same_word l.0 name) (elements_of l.1) []) (elements name ls))
    ∙ by_test seen (same_word l.0 name)
  where
    later : Bool
    later = has_word word (elements name ls)

    by_test : (s t : Bool) → (s || (has_word word (cond t (elements_of l.1) []) || has_word word (elements name ls)))
        ≡ (cond t (s || has_word word (elements_of l.1)) s || has_word word (elements name ls))
    by_test true true = refl
    by_test true false = refl
    by_test false true = refl
    by_test false false = refl

-- ---- Transfer-Encoding

abbrev counting : List (List ℕ) → List (List ℕ)
counting es = filter (λ x. not (is_blank x)) es

other_stays : (es : List (List ℕ)) → fold seen_after Other es ≡ Other
other_stays [] = refl
other_stays (e ∷ es) = other_stays es

chunked_then : (e : List ℕ) → same_word e (codes "chunked") ≡ true → (es : List (List ℕ))
    → coding_seen (fold seen_after Chunked es) ≡ cond (is_chunked_alone (e ∷ counting es)) coding.Chunked coding.Other
chunked_then e is [] = ap (λ (t : Bool). cond t coding.Chunked coding.Other) (sym is)
chunked_then e is (d ∷ es) = by_test (is_blank d) (chunked_then e is es)
  where
    by_test : (t : Bool) → coding_seen (fold seen_after Chunked es) ≡ cond (is_chunked_alone (e ∷ counting es)) coding.Chunked coding.Other → coding_seen (fold seen_after (cond t Chunked Other) es)
        ≡ cond (is_chunked_alone (e ∷ cond (not t) (d ∷ counting es) (counting es))) coding.Chunked coding.Other
    by_test true later = later
    by_test false later = ap coding_seen (other_stays es)

alone_test : (e : List ℕ) (es : List (List ℕ)) → same_word e (codes "chunked") ≡ false → is_chunked_alone (e ∷ es) ≡ false
alone_test e [] not_it = not_it
alone_test e (d ∷ es) not_it = refl

blank_then : (es : List (List ℕ))
    → coding_seen (fold seen_after Blank es) ≡ cond (is_chunked_alone (counting es)) coding.Chunked coding.Other
blank_then [] = refl
blank_then (e ∷ es) = by_test (is_blank e) (same_word e (codes "chunked")) refl (blank_then es)
  where
    by_test : (t u : Bool) → same_word e (codes "chunked") ≡ u
        → coding_seen (fold seen_after Blank es) ≡ cond (is_chunked_alone (counting es)) coding.Chunked coding.Other
        → coding_seen (fold seen_after (cond t Blank (cond u Chunked Other)) es)
        ≡ cond (is_chunked_alone (cond (not t) (e ∷ counting es) (counting es))) coding.Chunked coding.Other
    by_test true u is later = later
    by_test false true is later = chunked_then e is es
    by_test false false is later = ap coding_seen (other_stays es) ∙ ap (λ (t : Bool). cond t coding.Chunked coding.Other) (sym (alone_test e (counting es) is))

pub seen_is : (es : List (List ℕ)) → coding_seen (fold seen_after Nothing es) ≡ coding_of es
seen_is [] = refl
seen_is (e ∷ es) = blank_then (e ∷ es)

lines_fold : (s : Seen) (ls : List Line) → fold seen_after_line s ls ≡ fold seen_after s (elements (codes "transfer-encoding") ls)
lines_fold s [] = refl
lines_fold s (l ∷ ls) = lines_fold (seen_after_line s l) ls ∙ sym (fold_line seen_after s (codes "transfer-encoding") l ls)

pub lines_seen : (ls : List Line) → coding_seen (fold seen_after_line Nothing ls) ≡ coding_of (elements (codes "transfer-encoding") ls)
lines_seen ls = ap coding_seen (lines_fold Nothing ls) ∙ seen_is (elements (codes "transfer-encoding") ls)

-- ---- the first element of the lines of a name

pub skip_line : {X : Type 0} (name : List ℕ) (f : X → Line) (hs : List X) (i : ℕ) (d : X) (word : List ℕ) → i < length hs → word ≡ (f (get_or hs i d)).0
    → same_word word name ≡ false → elements name (map f (drop (i + 1) hs)) ≡ elements name (map f (drop i hs))
skip_line {X} name f hs i d word lt is fails =
    sym (at_drop_more (λ (ls : List X). elements name (map f ls)) hs i d lt
    ∙ ap (λ (t : Bool). cond t (elements_of (f (get_or hs i d)).1) [] ++ elements name (map f (drop (i + 1) hs))) (ap (λ (w : List ℕ). same_word w name) (sym is) ∙ fails))

first_of_more : (es rest : List (List ℕ)) (e : List ℕ) → slice_get es 0 ≡ Some e → slice_get (es ++ rest) 0 ≡ Some e
first_of_more [] rest e is = absurd (cc)
first_of_more (x ∷ es) rest e is = is

pub first_line : {X : Type 0} (name : List ℕ) (f : X → Line) (hs : List X) (i : ℕ) (d : X) (word value element : List ℕ) → i < length hs → word ≡ (f (get_or hs i d)).0
    → same_word word name ≡ true → value ≡ (f (get_or hs i d)).1 → slice_get (elements_of value) 0 ≡ Some element
    → slice_get (elements name (map f (drop i hs))) 0 ≡ Some element
first_line {X} name f hs i d word value element lt is holds value_is found =
    ap (λ (l : List (List ℕ)). slice_get l 0) (at_drop_more (λ (ls : List X). elements name (map f ls)) hs i d lt
    ∙ ap (λ (t : Bool). cond t (elements_of (f (get_or hs i d)).1) [] ++ elements name (map f (drop (i + 1) hs))) (ap (λ (w : List ℕ). same_word w name) (sym is) ∙ holds))
    ∙ first_of_more (elements_of (f (get_or hs i d)).1) (elements name (map f (drop (i + 1) hs))) element (ap (λ (v : List ℕ). slice_get (elements_of v) 0) (sym value_is) ∙ found)
