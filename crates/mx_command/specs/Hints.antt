-- The hints after clap's words.
use Rattle.std.specs.Prelude.{ℕ, Bool, ◌||◌, List, length, nat_eq}
use Rattle.std.specs.List.{list_any}
use Rattle.std.specs.Str.{chars}
use Rattle.strsim.specs.Edits.{levenshtein_row}

-- how many letters are put in, left out or changed, from one word to another
abbrev pub distance : List ℕ → List ℕ → ℕ
distance word name = levenshtein_row nat_eq (chars word) (chars name) (length (chars name))

-- no command has a colon, a slash or a point in its name
abbrev pub is_url : List ℕ → Bool
is_url word = list_any (λ b. nat_eq b 58) word || list_any (λ b. nat_eq b 47) word || list_any (λ b. nat_eq b 46) word
