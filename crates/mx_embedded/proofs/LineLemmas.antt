-- A text, cut at the first byte that ends a piece.
use Rattle.std.proofs.Common.{◌≡◌, ℕ, suc, ◌+◌, ◌<◌, ◌==◌, Bool, true, false, List, [], ◌∷◌, refl, ap, ◌∙◌, arith, drop, take, length}
use Rattle.mx_embedded.specs.Hosts.{is_comma}
use Rattle.mx_embedded.specs.Words.{is_line_feed, lines_of}
use Rattle.std.specs.Prelude.{Result, Ok, Err, IfOk, IfErr}
use Rattle.std.specs.List.{Contains, after_first, before_first, onto_first, position_or_len, slice_split}

-- the first piece, and the pieces behind it
pub first_piece : (is : ℕ → Bool) (text : List ℕ) → position_or_len is text < length text → slice_split is text ≡ before_first is text ∷ slice_split is (after_first is text)
first_piece is [] within = absurd (omega (arith, within))
first_piece is (b ∷ text) within = elim (is b) as (λ (t : Bool). is b ≡ t → slice_split is (b ∷ text) ≡ before_first is (b ∷ text) ∷ slice_split is (after_first is (b ∷ text))) [
  | true ↦ λ ends. rw ends refl
  | false ↦ λ ends. (let less : position_or_len is text < length text = omega (arith, (rw ends at within)) in
      let n = position_or_len is text in
      let far : 1 + n + 1 ≡ suc (n + 1) = omega arith in
      let near : 1 + n ≡ suc n = omega arith in rw (ends, far, near, first_piece is text less) refl)
] refl

-- a text without such a byte is one piece
pub last_piece : (is : ℕ → Bool) (text : List ℕ) → position_or_len is text ≡ length text → slice_split is text ≡ text ∷ []
last_piece is [] none = refl
last_piece is (b ∷ text) none = elim (is b) as (λ (t : Bool). is b ≡ t → slice_split is (b ∷ text) ≡ (b ∷ text) ∷ []) [
  | true ↦ λ ends. absurd (omega (arith, (rw ends at none)))
  | false ↦ λ ends. (let less : position_or_len is text ≡ length text = omega (arith, (rw ends at none)) in rw (ends, last_piece is text less) refl)
] refl

-- a list contains its first item, and what the list behind that contains
pub contains_front : (all rest : List (List ℕ)) (first : List ℕ) → all ≡ first ∷ rest → Contains all first
contains_front all rest first is = rw is (0, omega arith, refl)

pub contains_behind : (all rest : List (List ℕ)) (first other : List ℕ) → all ≡ first ∷ rest → Contains rest other → Contains all other
contains_behind all rest first other is there = rw is (suc there.0, omega (arith, there.1), there.2)

-- what a success says leads to what it is to say
pub of_success : {A E : Type 0} (P Q : A → Type 0) (r : Result A E) → ((a : A) → P a → Q a) → IfOk r P → IfOk r Q
of_success P Q (Ok a) leads says = leads a says
of_success P Q (Err e) leads says = says

-- what an error says leads to what it is to say
pub of_error : {A E : Type 0} (P Q : E → Type 0) (r : Result A E) → ((e : E) → P e → Q e) → IfErr r P → IfErr r Q
of_error P Q (Ok a) leads says = says
of_error P Q (Err e) leads says = leads e says

-- the same of lines
pub first_line : (text : List ℕ) → position_or_len is_line_feed text < length text → lines_of text ≡ before_first is_line_feed text ∷ lines_of (after_first is_line_feed text)
first_line = first_piece is_line_feed

pub last_line : (text : List ℕ) → position_or_len is_line_feed text ≡ length text → lines_of text ≡ text ∷ []
last_line = last_piece is_line_feed

-- the same of pieces between commas
pub first_between_commas : (text : List ℕ) → position_or_len is_comma text < length text → slice_split is_comma text ≡ before_first is_comma text ∷ slice_split is_comma (after_first is_comma text)
first_between_commas = first_piece is_comma

pub last_between_commas : (text : List ℕ) → position_or_len is_comma text ≡ length text → slice_split is_comma text ≡ text ∷ []
last_between_commas = last_piece is_comma
