-- Lines that are read byte by byte.
use Rattle.std.proofs.Common.{◌≡◌, ◌≢◌, ℕ, ◌≤◌, ◌==◌, Bool, true, false, not, List, [], ◌∷◌, ◌++◌, length, take, refl, sym, ap, ◌∙◌, append-nil, inl, inr}
use Rattle.std.specs.Prelude.{Option, option_to_list}
use Rattle.std.specs.Str.{IsUtf8, is_utf8}
use Rattle.std.proofs.lemmas.Bool.{and_parts}
use Rattle.std.proofs.lemmas.Bool.Decides.{eqb_tells}
use Rattle.std.proofs.lemmas.List.{take_all}
use Rattle.std.proofs.lemmas.Str.{IsUtf8-from_is_utf8}
use Rattle.std.proofs.Math.Seq.{take-append_seam}
use Rattle.mx_save_rules.specs.declared.entry.Entry.{Entry}
use Rattle.mx_save_rules.specs.Entries.{lines_of, onto_first, is_unended, told_if, entry_of, entry_of_front, entries_in, entries_from}
use Rattle.mx_save_rules.specs.Left.{then}

pub not_utf8 : (bytes : List ℕ) → (IsUtf8 bytes → ⊥) → is_utf8 bytes ≡ false
not_utf8 bytes isnt = by (is_utf8 bytes) refl where
  by : (b : Bool) → is_utf8 bytes ≡ b → is_utf8 bytes ≡ false
  by true e = absurd (isnt (IsUtf8-from_is_utf8 bytes e))
  by false e = e

not_false : (b : Bool) → not b ≡ true → b ≡ false
not_false true e = cc
not_false false e = refl

not_lf : (b : ℕ) → b ≢ 10 → (b == 10) ≡ false
not_lf b other = elim (eqb_tells b 10) as (λ _. (b == 10) ≡ false) [ inl t ↦ absurd (other t.1) | inr f ↦ f.0 ]

-- the first line of a text, and the lines after it
record Cut (bytes : List ℕ) : Type 0 where
  first : List ℕ
  more : List (List ℕ)
  is : lines_of bytes ≡ first ∷ more

cut_further : (b : ℕ) (bytes : List ℕ) → (b == 10) ≡ false → Cut bytes → Cut (b ∷ bytes)
cut_further b bytes other c = record { first = b ∷ c.first; more = c.more; is = rw other (ap (onto_first b) c.is) }

cut_here : (b : ℕ) (bytes : List ℕ) → (b == 10) ≡ true → Cut (b ∷ bytes)
cut_here b bytes lf = record { first = []; more = lines_of bytes; is = rw lf refl }

cut : (bytes : List ℕ) → Cut bytes
cut [] = record { first = []; more = []; is = refl }
cut (b ∷ bytes) =
    elim (eqb_tells b 10) as (λ _. Cut (b ∷ bytes)) [
      | inl t ↦ cut_here b bytes t.0
      | inr f ↦ cut_further b bytes f.0 (cut bytes)
    ]

-- an open line becomes part of the first
behind : (line bytes : List ℕ) → is_unended line ≡ true → (c : Cut bytes) → lines_of (line ++ bytes) ≡ (line ++ c.first) ∷ c.more
behind [] bytes unended c = c.is
behind (b ∷ line) bytes unended c =
    let parts = and_parts (not (b == 10)) (is_unended line) unended in
    let other : (b == 10) ≡ false = not_false (b == 10) parts.0 in
    rw other (ap (onto_first b) (behind line bytes parts.1 c))

whole : (is_first : Bool) (line : List ℕ) → length line ≤ 65537 → entry_of is_first line ≡ entry_of_front is_first line
unfolding entry_of
whole is_first line short = ap (entry_of_front is_first) (take_all 65537 line short)

-- the line ends, by an LF and by the end of the list
pub line_ended : (is_first : Bool) (line rest : List ℕ) (said : Option Entry) → is_unended line ≡ true → length line ≤ 65537
    → told_if said ≡ entry_of_front is_first line → entries_from is_first (line ++ 10 ∷ rest) ≡ then said (entries_from false rest)
line_ended is_first line rest said unended short tells =
    let c : Cut (10 ∷ rest) = record { first = []; more = lines_of rest; is = refl } in
    ap (entries_in is_first) (behind line (10 ∷ rest) unended c)
    ∙ ap (λ l. option_to_list (entry_of is_first l) ++ entries_from false rest) (append-nil line)
    ∙ ap (λ e. option_to_list e ++ entries_from false rest) (whole is_first line short ∙ sym tells)

pub line_last : (is_first : Bool) (line : List ℕ) (said : Option Entry) → is_unended line ≡ true → length line ≤ 65537
    → told_if said ≡ entry_of_front is_first line → entries_from is_first (line ++ []) ≡ then said []
line_last is_first line said unended short tells =
    let c : Cut [] = record { first = []; more = []; is = refl } in
    ap (entries_in is_first) (behind line [] unended c)
    ∙ ap (λ l. option_to_list (entry_of is_first l) ++ []) (append-nil line)
    ∙ ap (λ e. option_to_list e ++ []) (whole is_first line short ∙ sym tells)

-- of nothing nothing is left
pub nothing_left : entries_from false [] ≡ []
unfolding entry_of
nothing_left = refl

front_of : (line more : List ℕ) → length line ≡ 65537 → take 65537 (line ++ more) ≡ line
front_of line more long = ap (λ n. take n (line ++ more)) (sym long) ∙ take-append_seam line more

same_front : (is_first : Bool) (line x y : List ℕ) → length line ≡ 65537 → entry_of is_first (line ++ x) ≡ entry_of is_first (line ++ y)
unfolding entry_of
same_front is_first line x y long = ap (entry_of_front is_first) (front_of line x long ∙ sym (front_of line y long))

-- a byte of a line that is too long may be dropped
pub one_dropped : (is_first : Bool) (line : List ℕ) (b : ℕ) (rest : List ℕ) → is_unended line ≡ true → b ≢ 10 → length line ≡ 65537
    → entries_from is_first (line ++ b ∷ rest) ≡ entries_from is_first (line ++ rest)
unfolding cut_further
one_dropped is_first line b rest unended other long =
    let c = cut rest in
    let d = cut_further b rest (not_lf b other) c in
    ap (entries_in is_first) (behind line (b ∷ rest) unended d)
    ∙ ap (λ e. option_to_list e ++ entries_in false c.more) (same_front is_first line (b ∷ c.first) c.first long)
    ∙ sym (ap (entries_in is_first) (behind line rest unended c))
