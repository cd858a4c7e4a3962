-- The counts of names, one name further.
use Rattle.std.proofs.Common.{◌≡◌, ℕ, ◌+◌, List, [], ◌∷◌, ◌++◌, cond, String, Some, ap, ◌∙◌, arith, inl, inr}
use Rattle.std.specs.Prelude.{unwrap_or}
use Rattle.std.specs.Str.{bytes_eq}
use Rattle.std.specs.String.{string_cmp, string_bytes}
use Rattle.std.specs.Ordering.{nat_cmp}
use Rattle.std.specs.Cmp.Lexicographic.{slice_cmp}
use Rattle.std.specs.BTreeMap.{BTreeMap, UpdatesBy, get_by_text}
use Rattle.std.proofs.lemmas.Bool.{cases_Bool, cond-true, cond-false}
use Rattle.std.proofs.lemmas.Slice.Eq.{bytes_eq-Decides}
use Rattle.std.proofs.lemmas.Map.Text.{btree_map_updates_text}
use Rattle.mx_folder.specs.Names.{count_of}
use Rattle.mx_folder.specs.Counts.{Counts}
use Rattle.mx_folder.proofs.Apart.{count_more}

pub counts_more : {A : Type 0} (old new : BTreeMap (String A) ℕ) (given : List (List ℕ)) (bs : List ℕ) (next : ℕ)
    → UpdatesBy string_cmp (λ k. slice_cmp nat_cmp bs (string_bytes k)) old new (Some next) → next ≡ count_of given bs + 1
    → Counts old given → Counts new (given ++ bs ∷ [])
counts_more old new given bs next updates is counts base =
    let after = btree_map_updates_text bs old new (Some next) updates base in
    let more = count_more given bs base in
    elim (cases_Bool (bytes_eq bs base)) [
      | inl same ↦
          let now : unwrap_or (get_by_text new base) 0 ≡ next = ap (λ o. unwrap_or o 0) (after ∙ cond-true (bytes_eq bs base) (Some next) (get_by_text old base) same) in
          let was : count_of given bs ≡ count_of given base = ap (count_of given) ((bytes_eq-Decides bs base).0 same) in
          let one : ◌≡◌ {A = ℕ} (cond (bytes_eq bs base) 1 0) 1 = cond-true {A = ℕ} (bytes_eq bs base) 1 0 same in
          omega (arith, now, was, one, more, is)
      | inr not ↦
          let now : unwrap_or (get_by_text new base) 0 ≡ unwrap_or (get_by_text old base) 0 =
          ap (λ o. unwrap_or o 0) (after ∙ cond-false (bytes_eq bs base) (Some next) (get_by_text old base) not) in
          let none : ◌≡◌ {A = ℕ} (cond (bytes_eq bs base) 1 0) 0 = cond-false {A = ℕ} (bytes_eq bs base) 1 0 not in
          omega (arith, now, none, more, counts base)
    ]
