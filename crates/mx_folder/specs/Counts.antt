-- How the names that were given are counted.
use Rattle.std.specs.Prelude.{◌≡◌, ℕ, List, String, unwrap_or}
use Rattle.std.specs.BTreeMap.{BTreeMap, get_by_text}
use Rattle.mx_folder.specs.Names.{count_of}

-- each name has its count, and one that wasn't given has none
abbrev pub Counts : {A : Type 0} → BTreeMap (String A) ℕ → List (List ℕ) → Type 0
Counts counts given = (base : List ℕ) → unwrap_or (get_by_text counts base) 0 ≡ count_of given base
