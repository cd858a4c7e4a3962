-- The bytes of names.
use Rattle.std.proofs.Common.{◌≡◌, ◌≢◌, ℕ, ◌<◌, ◌≤◌, ◌+◌, ◌%◌, ◌^◌, Bool, true, not, cond, List, [], ◌∷◌, ◌++◌, length, take, map, get_or, refl, sym, ◌∙◌, arith}
use Rattle.std.specs.Prelude.{codes, decimal, ◌==◌}
use Rattle.std.specs.List.{list_all}
use Rattle.std.proofs.lemmas.Bool.{and_from, and_parts, cond_both}
use Rattle.std.proofs.lemmas.Bool.Decides.{nat_tests}
use Rattle.std.proofs.lemmas.List.{length-map, length-take, length-append, get_or_append_left}
use Rattle.std.proofs.lemmas.List.Folds.{list_all-append}
use Rattle.std.proofs.lemmas.Fmt.{decimal_by_steps, length-decimal-le}
use Rattle.mx_folder.specs.Paths.{path_of, last_segment}
use Rattle.mx_folder.specs.Names.{kept, unhidden, base_name, numbered, part_of}
use Rattle.mx_folder.specs.Safe.{is_name_byte, IsSafeName, IsPartName}

-- no number sign
abbrev pub is_plain : ℕ → Bool
is_plain b = not (b == 35)

pub kept_is_name_byte : (b : ℕ) → is_name_byte (kept b) ≡ true
kept_is_name_byte b = grind (arith, nat_tests)

pub kept_is_plain : (b : ℕ) → is_plain (kept b) ≡ true
kept_is_plain b = grind (arith, nat_tests)

pub all_kept : (bs : List ℕ) → list_all is_name_byte (map kept bs) ≡ true
all_kept [] = refl
all_kept (b ∷ bs) = and_from (is_name_byte (kept b)) (list_all is_name_byte (map kept bs)) (kept_is_name_byte b) (all_kept bs)

pub all_kept_plain : (bs : List ℕ) → list_all is_plain (map kept bs) ≡ true
all_kept_plain [] = refl
all_kept_plain (b ∷ bs) = and_from (is_plain (kept b)) (list_all is_plain (map kept bs)) (kept_is_plain b) (all_kept_plain bs)

pub digit_is_name_byte : (n : ℕ) → n < 10 → is_name_byte (48 + n) ≡ true
digit_is_name_byte n h = grind (arith, nat_tests)

-- the digits of a number
pub all_digits : (n : ℕ) → n < 2 ^ 64 → list_all is_name_byte (decimal n) ≡ true
all_digits = decimal_by_steps (λ n ds. list_all is_name_byte ds ≡ true)
    (λ n h. and_from (is_name_byte (48 + n)) true (digit_is_name_byte n h) refl)
    (λ n ds h p. list_all-append is_name_byte ds _ ∙ and_from (list_all is_name_byte ds) _ p (and_from (is_name_byte (48 + n % 10)) true (digit_is_name_byte (n % 10) (omega arith)) refl))

pub append_all : (p : ℕ → Bool) (xs ys : List ℕ) → list_all p xs ≡ true → list_all p ys ≡ true → list_all p (xs ++ ys) ≡ true
append_all p xs ys f g = list_all-append p xs ys ∙ and_from (list_all p xs) (list_all p ys) f g

pub few_digits : (n : ℕ) → n < 2 ^ 64 → length (decimal n) ≤ 20
few_digits n h = length-decimal-le 20 n (omega arith) (omega arith) h

-- a name from bytes that are kept
pub unhidden_safe : (bs : List ℕ) → length bs ≤ 234 → list_all is_name_byte bs ≡ true
    → (0 < length (unhidden bs)) × (length (unhidden bs) ≤ 234) × (list_all is_name_byte (unhidden bs) ≡ true) × (get_or (unhidden bs) 0 0 ≢ 46)
unhidden_safe [] short all = (omega arith, omega arith, refl, λ e. absurd (omega (arith, e)))
unhidden_safe (b ∷ bs) short all =
    let first : (is_name_byte (cond (b == 46) 95 b) ≡ true) × (cond (b == 46) 95 b ≢ 46) = (grind (arith, nat_tests), λ e. grind (arith, nat_tests)) in
    let rest : list_all is_name_byte bs ≡ true = (and_parts (is_name_byte b) (list_all is_name_byte bs) all).1 in
    (omega arith, omega arith, and_from (is_name_byte (cond (b == 46) 95 b)) (list_all is_name_byte bs) first.0 rest, first.1)

-- such a name with a number
pub with_number : (name : List ℕ) (n : ℕ) → n < 2 ^ 64 → 0 < length name → length name ≤ 234 → list_all is_name_byte name ≡ true → get_or name 0 0 ≢ 46
    → IsSafeName (name ++ 35 ∷ decimal n)
with_number name n small some short all shown = record {
  some = omega (arith, length-append name (35 ∷ decimal n));
  short = omega (arith, length-append name (35 ∷ decimal n), few_digits n small);
  bytes = append_all is_name_byte name (35 ∷ decimal n) all (all_digits n small);
  shown = λ e. shown (sym (get_or_append_left name (35 ∷ decimal n) 0 0 some) ∙ e);
}

pub numbered_safe : (bs : List ℕ) (n : ℕ) → n < 2 ^ 64 → length bs ≤ 234 → list_all is_name_byte bs ≡ true → IsSafeName (numbered (unhidden bs) n)
numbered_safe bs n small short all =
    let u = unhidden_safe bs short all in
    cond_both (n == 0) (unhidden bs) (unhidden bs ++ 35 ∷ decimal n) IsSafeName
    (λ _. record { some = u.0; short = omega (arith, u.1); bytes = u.2; shown = u.3 })
    (λ _. with_number (unhidden bs) n small u.0 u.1 u.2 u.3)

pub safe : (url : List ℕ) (n : ℕ) → n < 2 ^ 64 → IsSafeName (numbered (base_name url) n)
unfolding base_name
safe url n small =
    numbered_safe (map kept (take 234 (last_segment (path_of url)))) n small
    (omega (arith, length-map (take 234 (last_segment (path_of url))) kept, length-take 234 (last_segment (path_of url))))
    (all_kept (take 234 (last_segment (path_of url))))

-- the name of a part
pub part_safe : (process number : ℕ) → process < 2 ^ 32 → number < 2 ^ 64 → IsPartName (part_of process number)
unfolding part_of
part_safe process number small low =
    let d = decimal process in
    let e = decimal number in
    let long = length-append d (codes "-" ++ (e ++ codes ".part")) in
    let longer = length-append e (codes ".part") in
    record {
      long = omega arith;
      short = omega (arith, few_digits process (omega arith), few_digits number low, long, longer);
      bytes = append_all is_name_byte d (codes "-" ++ (e ++ codes ".part")) (all_digits process (omega arith)) (append_all is_name_byte e (codes ".part") (all_digits number low) refl);
      hidden = refl;
    }
